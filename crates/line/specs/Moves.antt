-- How the code splits a step: a move of the progress, by numbers alone, and the action that it names, on the store. By the law `step_moves`
-- both together are the step.
use Rattle.std.specs.Prelude.{ℕ, ◌+◌, ◌-◌, ◌*◌, ◌≤◌, ◌<◌, ◌≡◌, List, true, false, set, eqb, Option, Some, None}
use Rattle.wire.specs.Choice.{pick}
use Rattle.line.specs.Receive.{idle, reading, after_start, within, busy, counted, step_to, finished}
use Rattle.line.specs.declared.Progress.{Progress}
use Rattle.line.specs.declared.Action.{Action}
use Rattle.line.specs.declared.Action.TheVariants.{Keep, Put, Finish, Refuse}
use Rattle.line.specs.declared.Move.{Move}
use Rattle.line.specs.declared.Step.{Step}
use Rattle.line.specs.declared.Event.{Event}
use Rattle.line.specs.declared.Event.TheVariants.{Refused}
use Rattle.wire.specs.declared.refusals.Refusal.{Refusal}
use Rattle.wire.specs.declared.refusals.Refusal.TheVariants.{StartInFrame, BadEscape, BadFrameSize}

abbrev pub keep : Progress → Move
keep p = record { progress = p; action = Keep }

abbrev pub refuse : Refusal → ℕ → Move
refuse r place = record { progress = idle; action = Refuse r place }

unfoldable pub sized_move : ℕ → ℕ → Move
sized_move size count = pick (within size) (keep (reading false 0 2 size count)) (refuse BadFrameSize count)

unfoldable pub stored_move : Progress → ℕ → Move
stored_move p v =
    pick (eqb p.got (p.size + 1))
    (record { progress = idle; action = Finish (p.got - 2) v p.size p.count })
    (record { progress = reading false p.low (p.got + 1) p.size p.count; action = Put (p.got - 2) v })

unfoldable pub taken_move : Progress → ℕ → Move
taken_move p v =
    pick (eqb p.got 0)
    (keep (reading false v 1 p.size p.count))
    (pick (eqb p.got 1)
    (sized_move (p.low + 256 * v) p.count)
    (stored_move p v))

unfoldable pub unescaped_move : Progress → ℕ → Move
unescaped_move p b = pick (eqb b 0x3E) (taken_move p 0x7E) (pick (eqb b 0x1C) (taken_move p 0x5C) (refuse BadEscape p.count))

unfoldable pub in_frame_move : Progress → ℕ → Move
in_frame_move p b =
    pick p.escaped
    (unescaped_move p b)
    (pick (eqb b 0x5C) (keep (reading true p.low p.got p.size p.count)) (taken_move p b))

unfoldable pub move_of : Progress → ℕ → Move
move_of p b =
    pick (eqb b 0x7E)
    (record { progress = after_start; action = pick (busy p) (Refuse StartInFrame (p.count + 1)) Keep })
    (pick (busy p) (in_frame_move (counted p) b) (keep p))

-- ---- the store
-- an action writes to the store's 512 bytes, and a size is 5 to 512
abbrev pub WithinLimits : Action → Type 0
WithinLimits Keep = Unit {0}
WithinLimits (Put at v) = at < 512
WithinLimits (Finish at v size place) = (at < 512) × (5 ≤ size) × (size ≤ 512)
WithinLimits (Refuse r place) = Unit {0}

abbrev pub store_after : Action → List ℕ → List ℕ
store_after Keep s = s
store_after (Put at v) s = set s at v
store_after (Finish at v size place) s = set s at v
store_after (Refuse r place) s = s

-- the event, from the store after it
abbrev pub event_of : Action → List ℕ → Option Event
event_of Keep s = None
event_of (Put at v) s = None
event_of (Finish at v size place) s = Some (finished size place s)
event_of (Refuse r place) s = Some (Refused r place)

-- what the function promises that does an action: the store after it, and the event
pub record ActsOn (a : Action) (s s' : List ℕ) (e : Option Event) : Type 0 where
  pub store : s' ≡ store_after a s
  pub event : e ≡ event_of a (store_after a s)

-- a move, with its action done on the store
abbrev pub acted : Move → List ℕ → Step
acted m s = step_to m.progress (store_after m.action s) (event_of m.action (store_after m.action s))

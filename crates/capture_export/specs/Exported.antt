-- What the exported functions promise.
use Rattle.std.specs.Prelude.{ℕ, ◌+◌, ◌<◌, ◌≡◌, List, [], ◌∷◌, length, Result, Ok, Err}
use Rattle.wire.specs.Refusals.{number_of}
use Rattle.wire.specs.declared.refusals.Refusal.{Refusal}
use Rattle.line.specs.Receive.{fresh_receiver}
use Rattle.line.specs.declared.Receiver.{Receiver}
use Rattle.listing.specs.Listing.{Lists}
use Rattle.capture.specs.Answer.{decoded_answer, list_after, buffer_after}
use Rattle.capture.specs.declared.Counts.{Counts}

-- an answer as three numbers: the refusal's or 0, then how many entries and how many payload bytes
abbrev pub answer_numbers : Result Counts Refusal → List ℕ
answer_numbers (Ok c) = 0 ∷ c.entries ∷ c.bytes ∷ []
answer_numbers (Err r) = number_of r ∷ 0 ∷ 0 ∷ []

pub record DecodesInto (capture list buffer answer' list' buffer' : List ℕ) : Type 0 where
  pub answers : answer' ≡ answer_numbers (decoded_answer capture list buffer)
  pub lists : list' ≡ list_after capture list buffer
  pub stores : buffer' ≡ buffer_after capture list buffer

-- the lines of the first bytes of a capture, to a fresh receiver: of all of them, unless fewer than 50 bytes of the room are left. Of how
-- many then is not said
pub record ListsFront (capture room : List ℕ) (at : ℕ) (left : List ℕ) : Type 0 where
  pub used : ℕ
  pub receiver : Receiver
  pub lists : Lists capture 0 fresh_receiver used receiver room at left
  pub all : used < length capture → length room < at + 50

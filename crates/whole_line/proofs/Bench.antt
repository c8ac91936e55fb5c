-- Document 01's examples marked P, all of them. Assumes nothing.
use mathlib.Core.Path.{◌≡◌, refl, ◌∙◌, ap}
use mathlib.Core.List.{List}
use Prim.Native.Nat.{ℕ, ◌+◌}
use lib.ListN.{length}
use Rattle.crc.specs.Crc.{crc_from, crc_byte, crc_bit}
use Rattle.frame.specs.Image.{escape, escape_byte, is_mark}
use Rattle.line.specs.Receive.{step_of, busy, mid_frame, in_frame, unescaped, taken, sized}
use Rattle.line.specs.Line.{value_gives, escaped_gives, inside_gives, gives, run, after}
use Rattle.aes.specs.Ctr.{blocks_for}
use Rattle.session.proofs.Kept.{nonce_valid}
use Rattle.envelope.specs.Blocks.{blocks_in}
use Rattle.envelope.specs.Sealed.{sealed_image}
use Rattle.envelope.proofs.Unsealed.{sealed_blocks}
use Rattle.whole_line.specs.Bench.{All, table}

-- the least number of blocks that holds 6 + n bytes
blocks : (n : ℕ) (key pn sn m : List ℕ) → length pn ≡ 3 → length m ≡ n → blocks_in (sealed_image key pn sn m) ≡ blocks_for (6 + n)
blocks n key pn sn m three long = sealed_blocks key pn sn m three ∙ ap (λ (k : ℕ). blocks_for (6 + k)) long

-- a row, and the rows behind it
infixr 5 ◌then◌
abbrev ◌then◌ : {A B : Type 0} → A → B → A × B
a then b = (a, b)

pub bench_right : All table
unfolding escape escape_byte is_mark crc_from crc_byte crc_bit run gives inside_gives escaped_gives value_gives after step_of busy mid_frame in_frame unescaped taken sized
bench_right =
    refl
    then refl
    then (refl, refl)
    then (refl, refl)
    then (refl, refl)
    then (refl, refl)
    then (refl, refl)
    then (refl, refl)
    then blocks 10
    then blocks 11
    then (λ s nonce. nonce_valid s nonce _ _ _)
    then (λ s nonce. nonce_valid s nonce _ _ _)
    then (λ s nonce. nonce_valid s nonce _ _ _)
    then refl
    then refl
    then refl
    then refl
    then tt

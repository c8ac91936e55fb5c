-- The rounds that are left give what all nine give. Assumes nothing.
use Rattle.std.proofs.Common.{◌≡◌, ◌≤◌, ◌-◌}
use Rattle.aes.specs.InvCipher.{inv_rounds}
use Rattle.aes.proofs.inv_cipher.decrypt_block.Given as goal

abbrev pub invariant-loop-i : goal.invariant-loop-i
invariant-loop-i l = (1 ≤ l.i) × (l.i ≤ 10) × (inv_rounds l.keys l.s (l.i - 1) ≡ inv_rounds l.keys l.initial.s 9)

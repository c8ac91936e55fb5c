-- Document 02 §6: the packet nonces of the last eight encrypted messages that passed all of 10 to 13, newest first. A packet nonce is a number of 3 bytes.
use Rattle.std.specs.Prelude.{ℕ, ◌+◌, min, Bool, List, ◌∷◌, take, replicate, leb}
use Rattle.wire.specs.Choice.{pick}
use Rattle.session.specs.declared.NonceMemory.{NonceMemory}

abbrev pub empty_memory : NonceMemory
empty_memory = record { count = 0; nonces = replicate 8 0 }

-- its count is 0 to 8
abbrev pub count_fits : NonceMemory → Bool
count_fits m = leb m.count 8

-- one whose count lies outside is taken as fresh
unfoldable pub limited : NonceMemory → NonceMemory
limited m = pick (count_fits m) m empty_memory

-- those remembered
unfoldable pub remembered : NonceMemory → List ℕ
remembered m = take (limited m).count (limited m).nonces

-- one more: it is put in front, and eight are kept
abbrev pub in_front : ℕ → List ℕ → List ℕ
in_front n ns = take 8 (n ∷ ns)

-- the record after it, every place. It remembers `in_front n (remembered m)`: `remembers_one`, proofs/Remembered.antt
unfoldable pub remembering : NonceMemory → ℕ → NonceMemory
remembering m n = record { count = min 8 ((limited m).count + 1); nonces = in_front n (limited m).nonces }

-- Document 01, 'Cipher and session': counter mode.
use Rattle.std.specs.Prelude.{ℕ, zero, suc, ◌+◌, ◌/◌, ◌%◌, length}
use mathlib.Core.List.{List, [], ◌∷◌, ◌++◌, zip_with}
use Rattle.aes.specs.Field.{◌⊕◌}
use Rattle.aes.specs.Cipher.{cipher}

-- byte by byte, as long as both last
abbrev pub xors : List ℕ → List ℕ → List ℕ
xors s t = zip_with (λ a b. a ⊕ b) s t

-- the w low bytes of a number, the high one first
abbrev pub high_first : ℕ → ℕ → List ℕ
high_first zero v = []
high_first (suc w) v = high_first w (v / 256) ++ (v % 256 ∷ [])

-- packet nonce (3), session nonce (5), counter (8)
unfoldable pub counter_block : List ℕ → List ℕ → ℕ → List ℕ
counter_block pn sn i = pn ++ (sn ++ high_first 8 i)

-- the blocks of counters 0 to n - 1, enciphered, one behind the other
unfoldable pub keystream : List ℕ → List ℕ → List ℕ → ℕ → List ℕ
keystream key pn sn zero = []
keystream key pn sn (suc n) = keystream key pn sn n ++ cipher key (counter_block pn sn n)

-- the blocks that n bytes need
abbrev pub blocks_for : ℕ → ℕ
blocks_for n = (n + 15) / 16

-- bytes enciphered, or deciphered
unfoldable pub ctr_of : List ℕ → List ℕ → List ℕ → List ℕ → List ℕ
ctr_of key pn sn s = xors s (keystream key pn sn (blocks_for (length s)))

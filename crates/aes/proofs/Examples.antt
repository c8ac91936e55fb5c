-- Values that FIPS 197 gives in its text, packed elements and a counter block, by computation. Assumes nothing.
use mathlib.Core.Path.{◌≡◌, refl}
use mathlib.Core.List.{[], ◌∷◌}
use Prim.Native.Nat.{◌+◌}
use Rattle.aes.specs.Field.{xtime, times, ◌•◌}
use Rattle.aes.specs.Box.{sub_byte, affine, turned, inverse, powers, inv_sub_byte, inv_affine}
use Rattle.aes.specs.Cipher.{rcon}
use Rattle.aes.specs.Packed.{packed, element, each, times_x}
use Rattle.aes.specs.Ctr.{counter_block}

-- section 4.2
product : 0x57 • 0x83 ≡ 0xc1
unfolding ◌•◌ times xtime
product = refl

-- section 4.2.1
doubled : xtime 0x8e ≡ 0x07
unfolding xtime
doubled = refl

-- section 5.1.1
substituted : sub_byte 0x53 ≡ 0xed
unfolding sub_byte affine turned inverse powers ◌•◌ times xtime
substituted = refl

-- section 5.3.2: and back
substituted_back : inv_sub_byte 0xed ≡ 0x53
unfolding inv_sub_byte inv_affine turned inverse powers ◌•◌ times xtime
substituted_back = refl

-- eight elements in a number, the first the lowest; one of them again; x times each, of 0x57 and 0x8e as section 4.2.1 has them
packed_eight : packed 8 (λ i. i + 1) ≡ 0x0807060504030201
unfolding packed
packed_eight = refl

third : element 0x0807060504030201 2 ≡ 3
third = refl

each_doubled : each xtime 0x8e57 ≡ 0x07ae
unfolding packed xtime
each_doubled = refl

-- modulo x^8 + 1 the highest digit comes in again as the lowest
turned_left : times_x 1 0x81 ≡ 0x03
unfolding times_x
turned_left = refl

-- section 5.2: the constants of round keys 9 and 10
constants : rcon 8 ∷ rcon 9 ∷ [] ≡ 0x1b ∷ 0x36 ∷ []
unfolding rcon xtime
constants = refl

-- counter 258
counted : counter_block (1 ∷ 2 ∷ 3 ∷ []) (4 ∷ 5 ∷ 6 ∷ 7 ∷ 8 ∷ []) 258 ≡ 1 ∷ 2 ∷ 3 ∷ 4 ∷ 5 ∷ 6 ∷ 7 ∷ 8 ∷ 0 ∷ 0 ∷ 0 ∷ 0 ∷ 0 ∷ 0 ∷ 1 ∷ 2 ∷ []
unfolding counter_block
counted = refl

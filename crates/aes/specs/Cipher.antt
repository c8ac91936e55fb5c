-- FIPS 197, section 5: AES-128. A state is a list of four rows of four bytes, a round key a list of 16 bytes.
use Rattle.std.specs.Prelude.{ℕ, zero, suc, ◌+◌, ◌*◌, ◌%◌, List, [], ◌∷◌, ◌++◌, get_or}
use Rattle.aes.specs.Field.{◌⊕◌, ◌•◌, xtime}
use Rattle.aes.specs.Box.{sub_byte}

-- ---- section 3.4: the state

-- the list of f 0 .. f 3
abbrev pub four : {A : Type 0} → (ℕ → A) → List A
four f = f 0 ∷ f 1 ∷ f 2 ∷ f 3 ∷ []

-- the state with f r c in row r and column c
abbrev pub rows : (ℕ → ℕ → ℕ) → List (List ℕ)
rows f = four (λ r. four (λ c. f r c))

abbrev pub cell : List (List ℕ) → ℕ → ℕ → ℕ
cell s r c = get_or (get_or s r []) c 0

-- a block goes in column by column, and comes out so
abbrev pub to_state : List ℕ → List (List ℕ)
to_state b = rows (λ r c. get_or b (r + 4 * c) 0)

abbrev pub of_state : List (List ℕ) → List ℕ
of_state s = four (λ r. cell s r 0) ++ (four (λ r. cell s r 1) ++ (four (λ r. cell s r 2) ++ four (λ r. cell s r 3)))

-- ---- section 5.1: the steps of a round

-- section 5.1.1
abbrev pub sub_bytes : List (List ℕ) → List (List ℕ)
sub_bytes s = rows (λ r c. sub_byte (cell s r c))

-- section 5.1.2: row r goes r places to the left
abbrev pub shift_rows : List (List ℕ) → List (List ℕ)
shift_rows s = rows (λ r c. cell s r ((c + r) % 4))

-- section 5.1.3: a byte of a column, from it and the three below it, counted round
unfoldable pub mixed : ℕ → ℕ → ℕ → ℕ → ℕ
mixed a b c d = 2 • a ⊕ 3 • b ⊕ c ⊕ d

-- each byte of each column so
abbrev pub columns : (ℕ → ℕ → ℕ → ℕ → ℕ) → List (List ℕ) → List (List ℕ)
columns f s = rows (λ r c. f (cell s r c) (cell s ((r + 1) % 4) c) (cell s ((r + 2) % 4) c) (cell s ((r + 3) % 4) c))

abbrev pub mix_columns : List (List ℕ) → List (List ℕ)
mix_columns s = columns mixed s

-- section 5.1.4
abbrev pub add_round_key : List ℕ → List (List ℕ) → List (List ℕ)
add_round_key k s = rows (λ r c. cell s r c ⊕ get_or k (r + 4 * c) 0)

-- ---- section 5.2: key expansion. Round key n holds the words w[4n] .. w[4n + 3]

-- the round constants 1, 2, 4, ..: that of round key n + 1
unfoldable pub rcon : ℕ → ℕ
rcon zero = 1
rcon (suc n) = xtime (rcon n)

-- word j of a round key
abbrev pub word : List ℕ → ℕ → List ℕ
word k j = four (λ i. get_or k (4 * j + i) 0)

abbrev pub xor_word : List ℕ → List ℕ → List ℕ
xor_word a b = four (λ i. get_or a i 0 ⊕ get_or b i 0)

abbrev pub rot_word : List ℕ → List ℕ
rot_word a = four (λ i. get_or a ((i + 1) % 4) 0)

abbrev pub sub_word : List ℕ → List ℕ
sub_word a = four (λ i. sub_byte (get_or a i 0))

-- four words, each the sum of the word four places before and the word before, which is t for the first
abbrev pub chained : List ℕ → List ℕ → List ℕ
chained k t =
    let w0 : List ℕ = xor_word (word k 0) t in
    let w1 : List ℕ = xor_word (word k 1) w0 in
    let w2 : List ℕ = xor_word (word k 2) w1 in
    let w3 : List ℕ = xor_word (word k 3) w2 in
    w0 ++ (w1 ++ (w2 ++ w3))

-- the round key after k, by the round constant c
unfoldable pub next_key : ℕ → List ℕ → List ℕ
next_key c k = chained k (xor_word (c ∷ 0 ∷ 0 ∷ 0 ∷ []) (sub_word (rot_word (word k 3))))

unfoldable pub round_key : List ℕ → ℕ → List ℕ
round_key key zero = key
round_key key (suc n) = next_key (rcon n) (round_key key n)

-- f i, f (i + 1), .., n of them
unfoldable pub from : {A : Type 0} → (ℕ → A) → ℕ → ℕ → List A
from f i zero = []
from f i (suc n) = f i ∷ from f (suc i) n

-- the eleven round keys
unfoldable pub key_expansion : List ℕ → List (List ℕ)
key_expansion key = from (round_key key) 0 11

-- ---- section 5.1: the cipher

unfoldable pub round : List ℕ → List (List ℕ) → List (List ℕ)
round k s = add_round_key k (mix_columns (shift_rows (sub_bytes s)))

-- rounds 1 to n
unfoldable pub rounds : List (List ℕ) → List (List ℕ) → ℕ → List (List ℕ)
rounds keys s zero = s
rounds keys s (suc n) = round (get_or keys (suc n) []) (rounds keys s n)

-- a block under round keys: nine rounds, and a last one without MixColumns
unfoldable pub cipher_under : List (List ℕ) → List ℕ → List ℕ
cipher_under keys b =
    of_state (add_round_key (get_or keys 10 []) (shift_rows (sub_bytes (rounds keys (add_round_key (get_or keys 0 []) (to_state b)) 9))))

-- a block under a key
unfoldable pub cipher : List ℕ → List ℕ → List ℕ
cipher key b = cipher_under (key_expansion key) b

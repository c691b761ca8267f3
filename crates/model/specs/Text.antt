-- Text as lists of bytes: decimal numbers, and a field of so many columns. Byte 32 is a space.
use Rattle.std.specs.Prelude.{ℕ, zero, suc, ◌+◌, ◌-◌, ◌/◌, ◌%◌, List, [], ◌∷◌, ◌++◌, cond, ltb, length, replicate}

-- the last digits of a number, at most so many, without zeros in front: those before the last, then the last
unfoldable pub last_digits : ℕ → ℕ → List ℕ
last_digits zero n = []
last_digits (suc most) n = cond (ltb n 10) [] (last_digits most (n / 10)) ++ (48 + n % 10) ∷ []

-- in decimal: a number below 2^64 has at most twenty digits
abbrev pub decimal : ℕ → List ℕ
decimal n = last_digits 20 n

-- "right-aligned and padded with spaces" (02, S-1)
unfoldable pub padded : (columns : ℕ) → List ℕ → List ℕ
padded columns text = replicate (columns - length text) 32 ++ text

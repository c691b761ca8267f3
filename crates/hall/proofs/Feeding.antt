-- The input in pieces, and line by line.
use Prim.Native.Nat.{ℕ, suc, ◌+◌, ◌-◌, ◌<◌, ◌≤◌}
use mathlib.Core.Path.{◌≡◌, refl, sym, ap, ◌∙◌}
use mathlib.Core.List.{List, [], ◌∷◌, ◌++◌, append-nil, append_assoc}
use mathlib.Core.Bool.{Bool, true, false, cond, not}
use native.Mathlib.Numerals.{add-one}
use native.Mathlib.Omega.{arith}
use lib.ListN.{length, take, drop, drop_of_length-le, length-drop}
use lib.Seq.{take_all, drop-drop, drop-length}
use lib.Dec.{eqb}
use borrow.Author.Tests.{eqb-true, not-true, not-false}
use Rattle.lines.specs.Line.{is_empty, line_length}
use Rattle.hall.specs.Running.{Program, line_taken, with_read, fed, ended}

-- Reading in pieces is reading at once.
pub fed_append : (p : Program) (a b : List ℕ) → fed p (a ++ b) ≡ fed (fed p a) b
unfolding fed
fed_append p [] b = refl
fed_append p (x ∷ a) b = fed_append (cond (eqb x 10) (line_taken p) (with_read p (x ∷ []))) a b

none_read : (p : Program) → with_read p [] ≡ p
unfolding with_read
none_read p = rw (append-nil p.read)

read_twice : (p : Program) (a b : List ℕ) → with_read (with_read p a) b ≡ with_read p (a ++ b)
unfolding with_read
read_twice p a b = rw (append_assoc p.read a b)

-- the bytes before the end of a line are read
fed_line : (p : Program) (l : List ℕ) → fed p l ≡ fed (with_read p (take (line_length l) l)) (drop (line_length l) l)
unfolding fed line_length
fed_line p [] = sym (none_read p)
fed_line p (b ∷ l) = go (eqb b 10) refl (fed_line (with_read p (b ∷ [])) l)
  where
    go : (e : Bool) → eqb b 10 ≡ e
        → fed (with_read p (b ∷ [])) l ≡ fed (with_read (with_read p (b ∷ [])) (take (line_length l) l)) (drop (line_length l) l)
        → fed (cond e (line_taken p) (with_read p (b ∷ []))) l
        ≡ fed (with_read p (take (cond e 0 (line_length l + 1)) (b ∷ l))) (drop (cond e 0 (line_length l + 1)) (b ∷ l))
    go true e ih = rw (none_read p, e)
    go false e ih = rw (add-one (line_length l), ← read_twice p (b ∷ []) (take (line_length l) l)) ih

-- and then comes byte 10
at_end : (l : List ℕ) → line_length l < length l → drop (line_length l) l ≡ 10 ∷ drop (suc (line_length l)) l
unfolding line_length
at_end [] h = absurd (omega arith)
at_end (b ∷ l) h = go (eqb b 10) refl (at_end l) h
  where
    go : (e : Bool) → eqb b 10 ≡ e → (line_length l < length l → drop (line_length l) l ≡ 10 ∷ drop (suc (line_length l)) l)
        → cond e 0 (line_length l + 1) < length (b ∷ l)
        → drop (cond e 0 (line_length l + 1)) (b ∷ l) ≡ 10 ∷ drop (suc (cond e 0 (line_length l + 1))) (b ∷ l)
    go true e ih h = rw (eqb-true b 10 e)
    go false e ih h = rw (add-one (line_length l)) (ih (omega arith))

-- the end of a list, taken as a part of it
pub rest_whole : (l : List ℕ) (at n : ℕ) → length l ≤ n → take (n - at) (drop at l) ≡ drop at l
rest_whole l at n h = take_all (n - at) (drop at l) (rw length-drop (omega arith))

-- One line of a piece: its bytes before byte 10, or all that are left.
module _ (p : Program) (bytes : List ℕ) (at n : ℕ) (here : n ≡ line_length (take (length bytes - at) (drop at bytes))) where
  found : at + n - at ≡ line_length (drop at bytes)
  found =
      let e : n ≡ line_length (drop at bytes) = here ∙ ap line_length (rest_whole bytes at (length bytes) (omega arith)) in
      omega (arith, e)

  pub line_ends : at ≤ length bytes → at + n < length bytes
      → fed (line_taken (with_read p (take (at + n - at) (drop at bytes)))) (drop (at + n + 1) bytes) ≡ fed p (drop at bytes)
  unfolding fed
  line_ends inside h =
      let k : at + n + 1 ≡ at + suc (line_length (drop at bytes)) = omega (arith, found) in
      let some : line_length (drop at bytes) < length (drop at bytes) = rw length-drop (omega (arith, found)) in
      rw (found, k, ← drop-drop (suc (line_length (drop at bytes))) at bytes)
      (sym (fed_line p (drop at bytes) ∙ ap (fed (with_read p (take (line_length (drop at bytes)) (drop at bytes)))) (at_end (drop at bytes) some)))

  pub line_goes_on : length bytes ≤ at + n
      → fed (with_read p (take (at + n - at) (drop at bytes))) (drop (length bytes) bytes) ≡ fed p (drop at bytes)
  line_goes_on h =
      let all : length (drop at bytes) ≤ line_length (drop at bytes) = rw length-drop (omega (arith, found)) in
      rw (found, drop-length bytes)
      (sym (fed_line p (drop at bytes) ∙ ap (fed (with_read p (take (line_length (drop at bytes)) (drop at bytes)))) (drop_of_length-le (drop at bytes) all)))

-- then something was read
pub piece_some : (bytes : List ℕ) (at n : ℕ) → at < length bytes → length bytes ≤ at + n → 1 ≤ length (take (at + n - at) (drop at bytes))
piece_some bytes at n inside h = rw (take_all (at + n - at) (drop at bytes) (rw length-drop (omega arith)), length-drop) (omega arith)

-- all of a piece is taken in
pub fed_through : (p q : Program) (bytes : List ℕ) (at : ℕ) → length bytes ≤ at → fed q (drop at bytes) ≡ fed p bytes
    → q ≡ fed p bytes
unfolding fed
fed_through p q bytes at h e = rw (drop_of_length-le bytes h) at e

-- at the end of the input, by what the console knows of the line that is read
module _ (p : Program) {begun : Bool} (knows : begun ≡ not (is_empty p.read)) where
  pub ended_line : begun ≡ true → ended p ≡ line_taken p
  unfolding ended
  ended_line e = let some : is_empty p.read ≡ false = not-true _ (sym knows ∙ e) in rw some

  pub ended_none : begun ≡ false → ended p ≡ p
  unfolding ended
  ended_none e = let none : is_empty p.read ≡ true = not-false _ (sym knows ∙ e) in rw none

-- Lines laid one after the other are the wanted ones in a row, and behind them what was there.
use Prim.Native.Nat.{ℕ, zero, suc, ◌+◌, ◌-◌, ◌*◌, ◌/◌, ◌≤◌, ◌<◌}
use mathlib.Core.Path.{◌≡◌, refl, sym, ap, ◌∙◌}
use mathlib.Core.List.{List, [], ◌∷◌, ◌++◌, flatten, append_assoc, append-nil}
use mathlib.Core.Bool.{Bool, true, false, cond}
use native.Mathlib.Omega.{arith}
use native.Mathlib.Decide.{dec_lt}
use lib.ListN.{length, get_or, take, drop, length-append, length-take, length-drop, drop_of_length-le}
use lib.Seq.{sets, sets-eq, length-sets, take-nil, take_at, drop-drop, drop-cons, drop-append-add}
use lib.Dec.{leb, ltb}
use borrow.Author.Tests.{ltb-true, leb-true, le-leb, lt-leb, lt-ltb, le-ltb}
use Rattle.model.specs.Listing.{line_bytes, over}
use Rattle.model.proofs.Booleans.{both}
use Rattle.listing.specs.Laid.{wanted, laid_line, laid}

-- every line has its 73 bytes
abbrev pub Lines : List (List ℕ) → Type 0
Lines [] = Unit {0}
Lines (x ∷ xs) = (length x ≡ line_bytes) × Lines xs

-- which lines have a place
module _ (first line : ℕ) where
  pub wanted_before : (bytes : ℕ) → line < first → wanted first line bytes ≡ false
  unfolding wanted
  wanted_before bytes h = rw (lt-leb first line h)

  pub wanted_in : (bytes : ℕ) → first ≤ line → line - first < bytes / 73 → wanted first line bytes ≡ true
  unfolding wanted
  wanted_in bytes h l = rw (le-leb first line h, lt-ltb (line - first) (bytes / 73) l)

  pub wanted_behind : (bytes : ℕ) → first ≤ line → bytes / 73 ≤ line - first → wanted first line bytes ≡ false
  unfolding wanted
  wanted_behind bytes h l = rw (le-leb first line h, le-ltb (line - first) (bytes / 73) l)

  -- such a line's bytes lie within the lent ones
  pub wanted_room : {bytes : ℕ} → wanted first line bytes ≡ true → (first ≤ line) × (73 * (line - first) + 73 ≤ bytes)
  unfolding wanted
  wanted_room {bytes} e =
      let tests = both (leb first line) (ltb (line - first) (bytes / 73)) e in
      let room = ltb-true (line - first) (bytes / 73) tests.1 in
      (leb-true first line tests.0, omega arith)

  pub laid_none : (text out : List ℕ) → wanted first line (length out) ≡ false → laid_line first line text out ≡ out
  unfolding laid_line
  laid_none text out e = rw e

  pub laid_one : (text out : List ℕ) → wanted first line (length out) ≡ true → laid_line first line text out ≡ sets out (73 * (line - first)) text
  unfolding laid_line
  laid_one text out e = rw e

  -- the part of the bytes that a line was written into, back in its place
  pub put_laid : {r : Bool} (text out : List ℕ) {after : List ℕ} → r ≡ wanted first line (length out) → r ≡ true → after ≡ text
      → length after ≡ length (take ((line - first) * 73 + 73 - (line - first) * 73) (drop ((line - first) * 73) out))
      → take ((line - first) * 73) out ++ (after ++ drop ((line - first) * 73 + 73 - (line - first) * 73) (drop ((line - first) * 73) out))
      ≡ laid_line first line text out
  put_laid text out is there same len =
      let room = wanted_room (sym is ∙ there) in
      let whole : (line - first) * 73 + 73 - (line - first) * 73 ≡ 73 = omega arith in
      let at : (line - first) * 73 ≡ 73 * (line - first) = omega arith in
      let long : length text ≡ 73 = ap length (sym same) ∙ len ∙ rw (length-take, length-drop) (omega (arith, room.1)) in
      rw (whole, at, same)
      (sym
      (laid_one text out (sym is ∙ there)
      ∙ sets-eq text out (73 * (line - first)) (omega (arith, room.1))
      ∙ append_assoc (take (73 * (line - first)) out) text _
      ∙ rw (drop-drop, long)))

  pub length_laid_line : (text out : List ℕ) → length (laid_line first line text out) ≡ length out
  unfolding laid_line
  length_laid_line text out = go (wanted first line (length out))
    where
      go : (b : Bool) → length (cond b (sets out (73 * (line - first)) text) out) ≡ length out
      go true = length-sets out (73 * (line - first)) text
      go false = refl

-- a line laid behind the front, and the lines behind it
sets_behind : (front back text : List ℕ) (at : ℕ) → length front ≡ at → length text ≤ length back
    → sets (front ++ back) at text ≡ (front ++ text) ++ drop (length text) back
sets_behind front back text at e h =
    sets-eq text (front ++ back) at (rw length-append (omega arith))
    ∙ rw (take_at front back at e, ← e, drop-append-add front back (length text))

over_cons : (text : List ℕ) (lines : List (List ℕ)) (back : List ℕ) → length text ≡ 73 → over (text ∷ lines) back ≡ text ++ over lines (drop 73 back)
unfolding flatten
over_cons text lines back h = rw (length-append, drop-drop, h) (append_assoc text (flatten lines) (drop (73 + length (flatten lines)) back))

module _ (first : ℕ) where
  pub length_laid : (line : ℕ) (xs : List (List ℕ)) (out : List ℕ) → length (laid first line xs out) ≡ length out
  unfolding laid
  length_laid line [] out = refl
  length_laid line (x ∷ xs) out = length_laid (line + 1) xs (laid_line first line x out) ∙ length_laid_line first line x out

  -- the lines before the first are passed over
  laid_skip : (n line : ℕ) (xs : List (List ℕ)) (out : List ℕ) → line + n ≡ first
      → laid first line xs out ≡ laid first first (drop n xs) out
  unfolding laid
  laid_skip zero line xs out e = let same : line ≡ first = omega arith in ap (λ (l : ℕ). laid first l xs out) same
  laid_skip (suc n) line [] out e = refl
  laid_skip (suc n) line (x ∷ xs) out e =
      rw (laid_none first line x out (wanted_before first line (length out) (omega arith)))
      (laid_skip n (line + 1) xs out (omega arith))

  -- where there is no room none is laid
  laid_full : (line : ℕ) (xs : List (List ℕ)) (out : List ℕ) → first ≤ line → length out / 73 ≤ line - first
      → laid first line xs out ≡ out
  unfolding laid
  laid_full line [] out h l = refl
  laid_full line (x ∷ xs) out h l =
      rw (laid_none first line x out (wanted_behind first line (length out) h l)) (laid_full (line + 1) xs out (omega arith) (omega arith))

  laid_behind : (k : ℕ) (xs : List (List ℕ)) (front back : List ℕ) → Lines xs → length front ≡ 73 * k
      → laid first (first + k) xs (front ++ back) ≡ front ++ over (take (length back / 73) xs) back
  unfolding laid flatten
  laid_behind k [] front back h long = rw (take-nil (length back / 73))
  laid_behind k (x ∷ xs) front back h long = go (dec_lt (length back) 73) (laid_behind (k + 1) xs (front ++ x) (drop 73 back) h.1 next)
    where
      next : length (front ++ x) ≡ 73 * (k + 1)
      next = rw length-append (omega (arith, h.0))

      here : 73 ≤ length back → laid_line first (first + k) x (front ++ back) ≡ (front ++ x) ++ drop 73 back
      here much =
          laid_one first (first + k) x (front ++ back) (wanted_in first (first + k) (length (front ++ back)) (omega arith) (rw length-append (omega arith)))
          ∙ sets_behind front back x (73 * (first + k - first)) (omega arith) (omega (arith, h.0))
          ∙ ap (λ (n : ℕ). (front ++ x) ++ drop n back) h.0

      go : Dec (length back < 73)
          → laid first (first + (k + 1)) xs ((front ++ x) ++ drop 73 back) ≡ (front ++ x) ++ over (take (length (drop 73 back) / 73) xs) (drop 73 back)
          → laid first (first + k) (x ∷ xs) (front ++ back) ≡ front ++ over (take (length back / 73) (x ∷ xs)) back
      go (yes few) ih =
          let none : length back / 73 ≡ 0 = omega arith in
          laid_full (first + k) (x ∷ xs) (front ++ back) (omega arith) (rw length-append (omega arith)) ∙ rw none
      go (no much) ih =
          let more : length back / 73 ≡ suc (length (drop 73 back) / 73) = rw length-drop (omega arith) in
          let on : first + k + 1 ≡ first + (k + 1) = omega arith in
          rw (here (omega arith), on, ih, more)
          (append_assoc front x _ ∙ ap (λ (l : List ℕ). front ++ l) (sym (over_cons x (take (length (drop 73 back) / 73) xs) back h.0)))

-- from the front of the bytes on
pub lines_drop : (n : ℕ) (xs : List (List ℕ)) → Lines xs → Lines (drop n xs)
lines_drop zero xs h = h
lines_drop (suc n) [] h = tt
lines_drop (suc n) (x ∷ xs) h = lines_drop n xs h.1

module _ (first : ℕ) (xs : List (List ℕ)) (out : List ℕ) where
  pub laid_over_lem : Lines xs → laid first 0 xs out ≡ over (take (length out / 73) (drop first xs)) out
  laid_over_lem h =
      let same : first ≡ first + 0 = omega arith in
      laid_skip first first 0 xs out (omega arith)
      ∙ ap (λ (l : ℕ). laid first l (drop first xs) out) same
      ∙ laid_behind first 0 (drop first xs) [] out (lines_drop first xs h) refl

  -- past the last line
  pub laid_past : length xs ≤ first → laid first 0 xs out ≡ out
  unfolding laid
  laid_past h = laid_skip first first 0 xs out (omega arith) ∙ rw (drop_of_length-le xs h)

  -- with room for one
  pub laid_line_lem : Lines xs → length out ≡ 73 → first < length xs → laid first 0 xs out ≡ get_or xs first []
  unfolding flatten
  laid_line_lem h one below =
      let rest : drop 73 out ≡ [] = drop_of_length-le out {i = 73} (omega arith) in
      laid_over_lem h
      ∙ rw (one, drop-cons xs first [] below)
      (over_cons (get_or xs first []) [] out (rw (drop-cons xs first [] below) at (lines_drop first xs h)).0
      ∙ rw rest (append-nil (get_or xs first [])))

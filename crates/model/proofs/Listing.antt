-- Whole listings: every line has 73 bytes, a listing tells its records, and where each line stands.
use mathlib.Core.Path.{◌≡◌, refl, sym, ap, ◌∙◌}
use mathlib.Core.Logic.{◌⊎◌, inl, inr}
use mathlib.Core.List.{List, [], ◌∷◌, ◌++◌, append_assoc, map, flatten}
use mathlib.Core.Bool.{Bool, false, not}
use Prim.Native.Nat.{ℕ, zero, suc, ◌+◌, ◌*◌, ◌-◌, ◌/◌, ◌%◌, ◌^◌, min, ◌≤◌, ◌<◌}
use native.Mathlib.Omega.{arith}
use lib.ListN.{length, get_or, take, drop, length-append, length-take, length-drop}
use lib.Seq.{take_at, drop_at, drop-append-add, get_or-take, get_or-drop}
use lib.Dec.{leb, eqb}
use borrow.Author.Tests.{leb-false, eqb-true, not-false}
use Rattle.model.specs.declared.Stage.{Stage}
use Rattle.model.specs.Word.{part, OfBits}
use Rattle.model.specs.Sizes.{log_words}
use Rattle.model.specs.Anchor.{sizes_on}
use Rattle.model.specs.Refusal.{Row, row, Verdict, accepted, rejected, verdict}
use Rattle.model.specs.Transaction.{filled}
use Rattle.model.specs.Restart.{image_rows}
use Rattle.model.specs.Listing.{line_bytes, heading, Listed, line_of, listed_on, on_pages, listing, lent_wrong, list_rows, not_a_line, line_after, not_lines, lines_from, over, lines_after}
use Rattle.model.specs.ListingLaws.{Clear, Listable, LineColumns, LineOfRecord, LinesStand, number_shown, ListedNumbers, LinesLong, LineTells, ListingTells, LineCount, LinesAt, Written}
use Rattle.model.proofs.Members.{Every, every_nil, every_cons, first_of, others_of, every_drop, every_take, every_at}
use Rattle.model.proofs.Booleans.{or_none}
use Rattle.model.proofs.Verdict.{row_passed, verdict_append, accepted_first}
use Rattle.model.proofs.Checked.{rows_checked}
use Rattle.model.proofs.Columns.{line_columns, line_length_lem, heading_length, line_tells}
use Rattle.model.proofs.Clear.{clear_on, listed_numbers}

abbrev Long : List ℕ → Type 0
Long line = length line ≡ line_bytes

-- What holds of the heading and of the lines of some records holds of the lines of their pages.
pages_every : (P : List ℕ → Type 0) → P heading → (left : ℕ) (es : List Listed) → Every (λ (e : Listed). P (line_of e)) es → Every P (on_pages left es)
unfolding on_pages
pages_every P top left [] h = every_nil P
pages_every P top zero (e ∷ es) h =
    every_cons P heading (line_of e ∷ on_pages 59 es) top
    (every_cons P (line_of e) (on_pages 59 es) (first_of h) (pages_every P top 59 es (others_of h)))
pages_every P top (suc left) (e ∷ es) h = every_cons P (line_of e) (on_pages left es) (first_of h) (pages_every P top left es (others_of h))

pub lines_stand : LinesStand
unfolding LinesStand LineColumns listing
lines_stand anchor logs h =
    pages_every (λ (line : List ℕ). (line ≡ heading) ⊎ LineOfRecord anchor logs line) (inl refl) 0 (listed_on anchor logs)
    (λ e m. inr (record { listed = e; among = m; same = refl; stands = line_columns e (clear_on anchor logs h e m) }))

abbrev Told : Listed → Type 0
Told e = Clear e × (number_shown e.content < 2 ^ 64)

told_on : (anchor logs : List ℕ) → Listable anchor logs → OfBits 64 logs → Every Told (listed_on anchor logs)
unfolding ListedNumbers
told_on anchor logs h words e m = (clear_on anchor logs h e m, listed_numbers anchor logs words e m)

-- Pages that begin alike tell their records.
pub pages_tell : (left : ℕ) (es fs : List Listed) → Every Told es → Every Told fs → on_pages left es ≡ on_pages left fs → es ≡ fs
unfolding on_pages LineTells
pages_tell left [] [] c h e = refl
pages_tell zero [] (f ∷ fs) c h e = let z : ◌≡◌ {A = ℕ} 0 1 = cc in absurd (omega arith)
pages_tell (suc left) [] (f ∷ fs) c h e = let z : ◌≡◌ {A = ℕ} 0 1 = cc in absurd (omega arith)
pages_tell zero (x ∷ es) [] c h e = let z : ◌≡◌ {A = ℕ} 0 1 = cc in absurd (omega arith)
pages_tell (suc left) (x ∷ es) [] c h e = let z : ◌≡◌ {A = ℕ} 0 1 = cc in absurd (omega arith)
pages_tell zero (x ∷ es) (f ∷ fs) c h e =
    rw (line_tells x f (first_of c).0 (first_of h).0 (first_of c).1 (first_of h).1 (cc), pages_tell 59 es fs (others_of c) (others_of h) (cc))
pages_tell (suc left) (x ∷ es) (f ∷ fs) c h e =
    rw (line_tells x f (first_of c).0 (first_of h).0 (first_of c).1 (first_of h).1 (cc), pages_tell left es fs (others_of c) (others_of h) (cc))

pub lines_long : LinesLong
unfolding LinesLong listing
lines_long anchor logs h =
    pages_every Long heading_length 0 (listed_on anchor logs) (λ e m. line_length_lem e (clear_on anchor logs h e m))

pub listing_tells : ListingTells
unfolding ListingTells listing
listing_tells anchor logs anchor' logs' h k words others same =
    pages_tell 0 (listed_on anchor logs) (listed_on anchor' logs') (told_on anchor logs h words) (told_on anchor' logs' k others) same

-- How many lines there are, with `left` more records on this page.
count_from : (left : ℕ) (es : List Listed) → left ≤ 59 → length (on_pages left es) ≡ length es + (length es + (59 - left)) / 60
unfolding on_pages
count_from left [] h = omega arith
count_from zero (e ∷ es) h = omega (arith, count_from 59 es (omega arith))
count_from (suc left) (e ∷ es) h = omega (arith, count_from left es (omega arith))

pub line_count_lem : LineCount
unfolding LineCount
line_count_lem es = count_from 0 es (omega arith)

-- Page 0 is the page under way, on which `left` more records go: the next line is its line 61 - left. So the line n further on is line r of
-- page q where n + 61 ≡ 61 * q + r + left. Where r is 0, it is a heading.
top_from : (left : ℕ) (es : List Listed) (n q : ℕ) → left ≤ 59 → n + 61 ≡ 61 * q + left → n < length (on_pages left es)
    → get_or (on_pages left es) n [] ≡ heading
unfolding on_pages
top_from left [] n q h e l = absurd (omega arith)
top_from zero (x ∷ es) zero q h e l = refl
top_from zero (x ∷ es) (suc zero) q h e l = absurd (omega arith)
top_from zero (x ∷ es) (suc (suc n)) q h e l = top_from 59 es n (q - 1) (omega arith) (omega arith) (omega arith)
top_from (suc left) (x ∷ es) zero q h e l = absurd (omega arith)
top_from (suc left) (x ∷ es) (suc n) q h e l = top_from left es n q (omega arith) (omega arith) (omega arith)

-- and else it shows the k-th of the records to come
below_from : (left : ℕ) (es : List Listed) (n q r k : ℕ) → left ≤ 59 → 1 ≤ r → r < 61 → n + 61 ≡ 61 * q + r + left
    → k + 61 ≡ 60 * q + r + left → get_or (on_pages left es) n [] ≡ get_or (map line_of es) k []
unfolding on_pages
below_from left [] n q r k h low high e f = refl
below_from zero (x ∷ es) zero q r k h low high e f = absurd (omega arith)
below_from zero (x ∷ es) (suc zero) q r zero h low high e f = refl
below_from zero (x ∷ es) (suc zero) q r (suc k) h low high e f = absurd (omega arith)
below_from zero (x ∷ es) (suc (suc n)) q r zero h low high e f = absurd (omega arith)
below_from zero (x ∷ es) (suc (suc n)) q r (suc k) h low high e f =
    below_from 59 es n (q - 1) r k (omega arith) low high (omega arith) (omega arith)
below_from (suc left) (x ∷ es) zero q r zero h low high e f = refl
below_from (suc left) (x ∷ es) zero q r (suc k) h low high e f = absurd (omega arith)
below_from (suc left) (x ∷ es) (suc n) q r zero h low high e f = absurd (omega arith)
below_from (suc left) (x ∷ es) (suc n) q r (suc k) h low high e f =
    below_from left es n q r k (omega arith) low high (omega arith) (omega arith)

pub line_at : LinesAt
unfolding LinesAt LineCount
line_at es n =
    record {
      top = λ l e. top_from 0 es n (n / 61 + 1) (omega arith) (omega arith) l;
      there = λ l ne. omega (arith, ne, line_count_lem es);
      below = λ ne.
          below_from 0 es n (n / 61 + 1) (n % 61) (60 * (n / 61) + n % 61 - 1) (omega arith) (omega (arith, ne)) (omega arith) (omega arith)
          (omega (arith, ne));
    }

-- "an empty log prints nothing", and one record two lines
none_printed : length (on_pages 0 []) ≡ 0
unfolding on_pages
none_printed = refl

one_printed : (e : Listed) → on_pages 0 (e ∷ []) ≡ heading ∷ line_of e ∷ []
unfolding on_pages
one_printed e = refl

-- Lines one behind the other: each begins at a multiple of 73.
length_lines : (ls : List (List ℕ)) → Every Long ls → length (flatten ls) ≡ line_bytes * length ls
unfolding flatten
length_lines [] h = refl
length_lines (l ∷ ls) h = rw length-append (omega (arith, first_of h, length_lines ls (others_of h)))

part_lines : (ls : List (List ℕ)) (rest : List ℕ) (i : ℕ) → Every Long ls → i < length ls
    → part (line_bytes * i) line_bytes (flatten ls ++ rest) ≡ get_or ls i []
unfolding flatten part
part_lines [] rest i h k = absurd (omega arith)
part_lines (l ∷ ls) rest zero h k = rw append_assoc (take_at l (flatten ls ++ rest) line_bytes (first_of h))
part_lines (l ∷ ls) rest (suc i) h k =
    let e : line_bytes * suc i ≡ length l + line_bytes * i = omega (arith, first_of h) in
    rw (append_assoc, e, drop-append-add l (flatten ls ++ rest) (line_bytes * i)) (part_lines ls rest i (others_of h) (omega arith))

-- what is laid over the lent bytes
pub lines_written : (anchor logs : List ℕ) → Listable anchor logs → (first : ℕ) (before : List ℕ)
    → let lines : List (List ℕ) = lines_from anchor logs first (length before) in
    Written (listing anchor logs) first (length lines) before (over lines before)
unfolding lines_from LinesLong
lines_written anchor logs h first before =
    let all : List (List ℕ) = listing anchor logs in
    let room : ℕ = length before / line_bytes in
    let ls : List (List ℕ) = take room (drop first all) in
    let long : Every Long ls = every_take room (drop first all) (every_drop first all (lines_long anchor logs h)) in
    let bytes = length_lines ls long in
    let many : length ls ≡ min room (length all - first) = length-take room (drop first all) ∙ ap (min room) (length-drop first all) in
    record {
      many = many;
      as_long = rw (length-append, length-drop) (omega arith);
      each = λ i l.
          part_lines ls (drop (length (flatten ls)) before) i long l
          ∙ (let k : i < room = omega arith in rw (get_or-take, get_or-drop));
      rest = drop_at (flatten ls) (drop (length (flatten ls)) before) (line_bytes * length ls) bytes ∙ ap (λ (n : ℕ). drop n before) bytes;
    }

-- A call that is accepted has an image that can be listed, lent bytes of a right length, and the number of a line.
pub list_accepted : (stage : Stage) (bytes_wrong : Bool) (anchor logs : List ℕ) (number : ℕ)
    → verdict (list_rows stage bytes_wrong anchor logs number) ≡ accepted
    → Listable anchor logs × (bytes_wrong ≡ false) × (number < length (listing anchor logs))
unfolding list_rows lent_wrong
list_accepted stage bytes_wrong anchor logs number e =
    let rows : List Row = image_rows (lent_wrong bytes_wrong logs) anchor logs in
    let last : List Row = row 8 (leb (length (listing anchor logs)) number) ∷ [] in
    let image : verdict (rows ++ last) ≡ accepted = (row_passed _ _ e).1 in
    let passed : verdict rows ≡ accepted = accepted_first rows last image in
    let lent = (rows_checked (lent_wrong bytes_wrong logs) anchor logs passed).1 in (
      record { others = lent_wrong bytes_wrong logs; passed = passed },
      (or_none (not (eqb (length logs) (log_words (sizes_on anchor)))) bytes_wrong lent).1,
      leb-false _ _ (row_passed _ _ (sym (verdict_append rows last passed) ∙ image)).0,
    )

-- Taken or refused, a call leaves as many lent bytes as there were.
pub line_as_long : (stage : Stage) (anchor logs : List ℕ) (number : ℕ) (before : List ℕ)
    → length (line_after stage anchor logs number before) ≡ length before
unfolding line_after LinesLong
line_as_long stage anchor logs number before = go (verdict (list_rows stage (not_a_line (length before)) anchor logs number)) refl
  where
    go : (v : Verdict) → verdict (list_rows stage (not_a_line (length before)) anchor logs number) ≡ v
        → length (filled v (get_or (listing anchor logs) number []) before) ≡ length before
    go (rejected n a b) e = refl
    go accepted e =
        let h = list_accepted stage (not_a_line (length before)) anchor logs number e in
        every_at number (listing anchor logs) [] (lines_long anchor logs h.0) h.2
        ∙ sym (eqb-true (length before) line_bytes (not-false _ h.1))

pub lines_as_long : (stage : Stage) (anchor logs : List ℕ) (first : ℕ) (before : List ℕ)
    → length (lines_after stage anchor logs first before) ≡ length before
unfolding lines_after
lines_as_long stage anchor logs first before = go (verdict (list_rows stage (not_lines (length before)) anchor logs first)) refl
  where
    go : (v : Verdict) → verdict (list_rows stage (not_lines (length before)) anchor logs first) ≡ v
        → length (filled v (over (lines_from anchor logs first (length before)) before) before) ≡ length before
    go (rejected n a b) e = refl
    go accepted e = (lines_written anchor logs (list_accepted stage (not_lines (length before)) anchor logs first e).0 first before).as_long

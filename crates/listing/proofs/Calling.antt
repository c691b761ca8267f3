-- The calls of a listing: their rows in order, and the lines once none applies.
use Prim.Native.Nat.{ℕ, ◌-◌, ◌/◌, ◌≤◌, ◌<◌, min}
use mathlib.Core.Path.{◌≡◌, sym, ap, ◌∙◌}
use mathlib.Core.Bool.{Bool, true, false, cond, or-true}
use mathlib.Core.List.{List, [], ◌∷◌}
use native.Mathlib.Omega.{arith}
use lib.Dec.{leb, eqb}
use lib.ListN.{length, get_or, drop, length-take, length-drop}
use borrow.Author.Tests.{le-leb, lt-leb, eq-eqb, ne_eqb}
use Rattle.model.specs.declared.Stage.{Stage}
use Rattle.model.specs.declared.Sizes.{Sizes}
use Rattle.model.specs.declared.Answer.{Answer}
use Rattle.model.specs.declared.Answer.TheVariants.{Finished, Refused}
use Rattle.model.specs.Below.{join_below}
use Rattle.model.specs.Sizes.{log_words}
use Rattle.model.specs.Anchor.{sizes_on, start_on}
use Rattle.model.specs.Refusal.{Verdict, row, accepted, rejected, verdict, answer_by}
use Rattle.model.specs.Causes.{when_shut, retained_from, log_rows}
use Rattle.model.specs.Checkpoint.{per_disk}
use Rattle.model.specs.Transaction.{filled}
use Rattle.model.specs.Listing.{listed_in, listed_on, listing, lent_wrong, list_rows, lines_from, over}
use Rattle.model.specs.ListingLaws.{Listable, LinesLong}
use Rattle.model.proofs.Below.{join_cong}
use Rattle.model.proofs.Members.{Every, first_of, others_of}
use Rattle.model.proofs.PerDisk.{get_or_per_disk}
use Rattle.model.proofs.Verdict.{verdict_append, refused_append}
use Rattle.model.proofs.Listing.{lines_long, list_accepted}
use Rattle.frame.specs.declared.refusal.Refusal.{Refusal}
use Rattle.frame.specs.declared.refusal.Refusal.TheVariants.{Stage as WrongStage, Length, OutOfRange}
use Rattle.frame.specs.declared.refusal.TurnedAway.{TurnedAway}
use Rattle.frame.specs.Refusal.{number_of, with_zeros, verdict_in}
use Rattle.frame.proofs.Refusals.{numbered, ok_same}
use Rattle.std.specs.Prelude.{Result, Ok, Err}
use Rattle.replay.specs.Parts.{anchor_refusal}
use Rattle.replay.proofs.Checks.{image_verdict, rows_read}
use Rattle.listing.specs.Laid.{laid}
use Rattle.listing.specs.Sheets.{LaidAll}
use Rattle.listing.specs.Call.{last_rows, Lists}
use Rattle.listing.proofs.Laid.{Lines, laid_past, laid_line_lem, laid_over_lem}

-- Rows 6, 7 and 8, of what the code has read and found.
module _ (anchor logs : List ℕ) (first : ℕ) (s : Sizes) (same : s ≡ sizes_on anchor) (few : s.disks ≤ 8) {starts : List ℕ}
    (from : starts ≡ per_disk s (start_on anchor)) {told : Verdict}
    (checked : verdict (log_rows s (λ d. get_or starts d 0) logs) ≡ told) (out : List ℕ) where
  start_is : (d : ℕ) → d < s.disks → get_or starts d 0 ≡ start_on anchor d
  start_is d h = rw from (get_or_per_disk s (start_on anchor) d few h)

  logs_verdict : verdict (log_rows s (start_on anchor) logs) ≡ told
  logs_verdict = ap verdict (sym (rows_read s anchor logs few from)) ∙ checked

  pub logs_refused : (away : TurnedAway) → told ≡ rejected (number_of away.refusal) away.first away.second
      → Lists (last_rows anchor logs first) (listing anchor logs) first out (Err away) out
  unfolding last_rows
  logs_refused away some =
      let is =
      refused_append (log_rows s (start_on anchor) logs) (row 8 (leb (length (listing anchor logs)) first) ∷ []) _ _ _ (logs_verdict ∙ some) in
      record { told = rw (← same, is); count = λ n e. cc; bytes = rw (← same, is) }

  module _ (none : told ≡ accepted) where
    pub logs_right : verdict (log_rows s (λ d. get_or starts d 0) logs) ≡ accepted
    logs_right = checked ∙ none

    last_verdict : verdict (last_rows anchor logs first) ≡ verdict (row 8 (leb (length (listing anchor logs)) first) ∷ [])
    unfolding last_rows
    last_verdict =
        rw (← same) (verdict_append (log_rows s (start_on anchor) logs) (row 8 (leb (length (listing anchor logs)) first) ∷ [])
        (logs_verdict ∙ none))

    module _ {lines : ℕ} {after : List ℕ}
        (all : LaidAll first (join_below (λ d. listed_in d (retained_from s (λ e. get_or starts e 0) logs d)) s.disks) lines out after) where
      listed_all : join_below (λ d. listed_in d (retained_from s (λ e. get_or starts e 0) logs d)) s.disks ≡ listed_on anchor logs
      unfolding listed_on retained_from
      listed_all = rw (← same) (join_cong _ _ s.disks (λ d h. rw (start_is d h)))

      counted : lines ≡ length (listing anchor logs)
      unfolding listing
      counted = rw listed_all at all.count

      laid_all : after ≡ laid first 0 (listing anchor logs) out
      unfolding listing
      laid_all = rw listed_all at all.bytes

      pub lines_past : lines ≤ first
          → Lists (last_rows anchor logs first) (listing anchor logs) first out (Err (with_zeros OutOfRange)) after
      unfolding verdict
      lines_past h =
          let past : length (listing anchor logs) ≤ first = omega (arith, counted) in
          record {
            told = rw (last_verdict, le-leb _ _ past);
            count = λ n e. cc;
            bytes = rw (last_verdict, le-leb _ _ past) (laid_all ∙ laid_past first (listing anchor logs) out past);
          }

      pub lines_laid : first < lines
          → Lists (last_rows anchor logs first) (listing anchor logs) first out (Ok lines) after
      unfolding verdict
      lines_laid h =
          let there : first < length (listing anchor logs) = omega (arith, counted) in
          record { told = rw (last_verdict, lt-leb _ _ there); count = λ n e. sym (ok_same e) ∙ counted; bytes = rw (last_verdict, lt-leb _ _ there) laid_all }

-- Rows 1 to 5.
module _ (stage : Stage) (wrong : Bool) (anchor logs : List ℕ) (first : ℕ) (out : List ℕ) where
  abbrev Told : Result ℕ TurnedAway → List ℕ → Type 0
  Told r after = Lists (list_rows stage wrong anchor logs first) (listing anchor logs) first out r after

  turned : (refusal : Refusal) → verdict (list_rows stage wrong anchor logs first) ≡ rejected (number_of refusal) 0 0
      → Told (Err (with_zeros refusal)) out
  turned refusal e = record { told = e; count = λ n is. cc; bytes = rw e }

  pub list_stage : when_shut stage ≡ false → Told (Err (with_zeros WrongStage)) out
  unfolding list_rows verdict
  list_stage e = turned WrongStage (rw e)

  module _ (shut : when_shut stage ≡ true) {n : ℕ} (refusal : n ≡ anchor_refusal anchor) where
    first_rows : verdict (list_rows stage wrong anchor logs first)
        ≡ cond (eqb n 0) (verdict (row 5 (lent_wrong wrong logs (sizes_on anchor)) ∷ last_rows anchor logs first)) (rejected n 0 0)
    unfolding list_rows last_rows verdict
    first_rows = rw shut (image_verdict (lent_wrong wrong logs) anchor logs (row 8 (leb (length (listing anchor logs)) first) ∷ []) refusal)

    pub list_anchor : (r : Refusal) → number_of r ≡ n → Told (Err (with_zeros r)) out
    list_anchor r e = turned r (first_rows ∙ rw (← e, ne_eqb (number_of r) 0 (numbered r)))

    module _ (none : n ≡ 0) where
      pub list_lent : lent_wrong wrong logs (sizes_on anchor) ≡ true → Told (Err (with_zeros Length)) out
      unfolding verdict
      list_lent e = turned Length (first_rows ∙ rw (eq-eqb n 0 none, e))

      pub list_rest : lent_wrong wrong logs (sizes_on anchor) ≡ false → {r : Result ℕ TurnedAway} {after : List ℕ}
          → Lists (last_rows anchor logs first) (listing anchor logs) first out r after → Told r after
      unfolding verdict
      list_rest e l =
          let same : verdict (list_rows stage wrong anchor logs first) ≡ verdict (last_rows anchor logs first) = first_rows ∙ rw (eq-eqb n 0 none, e) in
          record { told = same ∙ l.told; count = l.count; bytes = rw same l.bytes }

-- check 5, as the code tests it
pub logs_short : (wrong : Bool) (logs : List ℕ) (s : Sizes) → (length logs ≡ log_words s → ⊥) → lent_wrong wrong logs s ≡ true
unfolding lent_wrong
logs_short wrong logs s ne = rw (ne_eqb (length logs) (log_words s) ne)

pub bytes_wrong_lem : (logs : List ℕ) (s : Sizes) {wrong : Bool} → wrong ≡ true → lent_wrong wrong logs s ≡ true
unfolding lent_wrong
bytes_wrong_lem logs s e = rw (e, or-true)

pub lent_right : (logs : List ℕ) (s : Sizes) {wrong : Bool} → length logs ≡ log_words s → wrong ≡ false → lent_wrong wrong logs s ≡ false
unfolding lent_wrong
lent_right logs s e f = rw (eq-eqb (length logs) (log_words s) e, f)

-- The lines of an accepted image have 73 bytes.
lines_of : (xs : List (List ℕ)) → Every (λ (line : List ℕ). length line ≡ 73) xs → Lines xs
lines_of [] h = tt
lines_of (x ∷ xs) h = (first_of h, lines_of xs (others_of h))

-- What the calls answer and leave, once the rows are told.
module _ (stage : Stage) (wrong : Bool) (anchor logs : List ℕ) (first : ℕ) (out after : List ℕ) {r : Result ℕ TurnedAway}
    (l : Lists (list_rows stage wrong anchor logs first) (listing anchor logs) first out r after) where
  module _ {away : TurnedAway} (some : r ≡ Err away) where
    refused : verdict (list_rows stage wrong anchor logs first) ≡ rejected (number_of away.refusal) away.first away.second
    refused = l.told ∙ ap verdict_in some

    pub answers_refused : (value : ℕ) → Refused (number_of away.refusal) away.first away.second ≡ answer_by (verdict (list_rows stage wrong anchor logs first)) value
    answers_refused value = rw refused

    pub leaves_bytes : (text : List ℕ) → after ≡ filled (verdict (list_rows stage wrong anchor logs first)) text out
    leaves_bytes text = l.bytes ∙ rw refused

  module _ {lines : ℕ} (none : r ≡ Ok lines) where
    taken : verdict (list_rows stage wrong anchor logs first) ≡ accepted
    taken = l.told ∙ ap verdict_in none

    pub answers_taken : (value : ℕ) → Finished 0 value ≡ answer_by (verdict (list_rows stage wrong anchor logs first)) value
    answers_taken value = rw taken

    image : Listable anchor logs × (wrong ≡ false) × (first < length (listing anchor logs))
    image = list_accepted stage wrong anchor logs first taken

    pub bytes_right : wrong ≡ false
    bytes_right = image.1

    all_lines : Lines (listing anchor logs)
    unfolding LinesLong
    all_lines = lines_of (listing anchor logs) (lines_long anchor logs image.0)

    laid_now : (text : List ℕ) → laid first 0 (listing anchor logs) out ≡ text → after ≡ filled (verdict (list_rows stage wrong anchor logs first)) text out
    laid_now text e = l.bytes ∙ rw (taken, e)

    pub leaves_line : length out ≡ 73 → after ≡ filled (verdict (list_rows stage wrong anchor logs first)) (get_or (listing anchor logs) first []) out
    leaves_line one = laid_now _ (laid_line_lem first (listing anchor logs) out all_lines one image.2)

    pub leaves_lines : after ≡ filled (verdict (list_rows stage wrong anchor logs first)) (over (lines_from anchor logs first (length out)) out) out
    unfolding lines_from
    leaves_lines = laid_now _ (laid_over_lem first (listing anchor logs) out all_lines)

    pub line_there : first < lines
    line_there = omega (arith, l.count lines none, image.2)

    pub lines_counted : length (lines_from anchor logs first (length out)) ≡ min (length out / 73) (lines - first)
    unfolding lines_from
    lines_counted =
        length-take (length out / 73) (drop first (listing anchor logs)) ∙ ap (min (length out / 73)) (length-drop first (listing anchor logs) ∙ rw (l.count lines none))

-- an answer that finished with the right number, however code says the number
pub lines_told : {n m : ℕ} {a : Answer} → Finished 0 m ≡ a → n ≡ m → Finished 0 n ≡ a
lines_told told same = ap (Finished 0) same ∙ told

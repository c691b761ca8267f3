-- The log on paper along lists of calls: see specs/ListingPromise.antt.
use mathlib.Core.Path.{◌≡◌, refl, sym, ap, subst, ◌∙◌}
use mathlib.Core.List.{List, [], ◌∷◌, ◌++◌, append-nil}
use mathlib.Core.Bool.{Bool, true, false, cond, not}
use Prim.Native.Nat.{ℕ, zero, suc, ◌+◌, ◌*◌, ◌%◌, ◌≤◌, ◌<◌}
use native.Mathlib.Omega.{arith}
use native.Mathlib.Nat.{mul-mod_right}
use lib.Dec.{leb, eqb}
use lib.ListN.{length, get_or}
use borrow.Author.Tests.{not-false, eqb-true, eq-eqb, ne_eqb, le-leb, lt-leb, leb-true, leb-false}
use Rattle.model.specs.declared.Stage.{Stage}
use Rattle.model.specs.declared.Stage.TheVariants.{Shut}
use Rattle.model.specs.declared.Core.{Core}
use Rattle.model.specs.declared.Sizes.{Sizes}
use Rattle.model.specs.declared.Answer.{Answer}
use Rattle.model.specs.Below.{join_below}
use Rattle.model.specs.Sizes.{log_words}
use Rattle.model.specs.Anchor.{sizes_on, start_on}
use Rattle.model.specs.Scan.{Scan, end, bad, item}
use Rattle.model.specs.World.{World, stores, made, finishes}
use Rattle.model.specs.Refusal.{Row, row, Verdict, accepted, rejected, verdict, conclude, answer_by, number_of, first_of}
use Rattle.model.specs.Causes.{when_shut, retained_from}
use Rattle.model.specs.Restart.{image_rows}
use Rattle.model.specs.Transaction.{filled}
use Rattle.model.specs.Listing.{Listed, line_bytes, listed_in, listed_on, listing, lent_wrong, list_rows, not_a_line, not_lines, line_after, lines_after, lines_from}
use Rattle.model.specs.Call.{Look, look, list_line, list_lines, look_rows, look_value, look_task, result_of}
use Rattle.model.specs.Reference.{outcome_of, taken}
use Rattle.model.specs.Machine.{result}
use Rattle.model.specs.LogPromise.{LogKept}
use Rattle.model.specs.ListingPromise.{OneListing, OneListingOfLines, TakenListable, LinesAreLines, of_disk, DiskByDisk, AnswersLine, ListingShows}
use Rattle.model.specs.Answers.{Returned}
use Rattle.model.proofs.Below.{join_cong}
use Rattle.model.proofs.Returned.{returned}
use Rattle.model.proofs.Restart.Taken.{taken_call}
use Rattle.model.proofs.Listing.{lines_written, list_accepted}
use Rattle.model.proofs.Lengths.{lengths_right_lem}
use Rattle.model.proofs.Booleans.{both, or_none}
use Rattle.model.proofs.Verdict.{row_passed, accepted_first}
use Rattle.model.proofs.Checked.{Checked, rows_checked}
use Rattle.model.proofs.Store.Checks.{shut_stage}
use Rattle.model.proofs.ListRows.{list_verdict}
use Rattle.model.proofs.Store.Holding.{holding_kept}
use Rattle.model.proofs.PowerLoss.{holds_after, log_kept}

-- The listed records of a disk are those of its scan.
of_append : (disk : ℕ) (l k : List Listed) → of_disk disk (l ++ k) ≡ of_disk disk l ++ of_disk disk k
unfolding of_disk
of_append disk [] k = refl
of_append disk (e ∷ l) k = go (eqb e.disk disk) (of_append disk l k)
  where
    go : (b : Bool) → of_disk disk (l ++ k) ≡ of_disk disk l ++ of_disk disk k
        → cond b (e ∷ of_disk disk (l ++ k)) (of_disk disk (l ++ k)) ≡ cond b (e ∷ of_disk disk l) (of_disk disk l) ++ of_disk disk k
    go true same = ap (λ (x : List Listed). e ∷ x) same
    go false same = same

of_own : (disk : ℕ) (sc : Scan) → of_disk disk (listed_in disk sc) ≡ listed_in disk sc
unfolding of_disk listed_in
of_own disk end = refl
of_own disk (bad p) = refl
of_own disk (item p r rest) = rw (eq-eqb disk disk refl, of_own disk rest)

of_other : (disk other : ℕ) → (other ≡ disk → ⊥) → (sc : Scan) → of_disk disk (listed_in other sc) ≡ []
unfolding of_disk listed_in
of_other disk other ne end = refl
of_other disk other ne (bad p) = refl
of_other disk other ne (item p r rest) = rw (ne_eqb other disk ne) (of_other disk other ne rest)

module _ (scans : ℕ → Scan) (disk : ℕ) where
  of_none : (n : ℕ) → n ≤ disk → of_disk disk (join_below (λ d. listed_in d (scans d)) n) ≡ []
  unfolding join_below of_disk
  of_none zero h = refl
  of_none (suc n) h =
      of_append disk (join_below (λ d. listed_in d (scans d)) n) (listed_in n (scans n))
      ∙ rw (of_none n (omega arith), of_other disk n (λ e. omega arith) (scans n)) refl

  of_join : (n : ℕ) → disk < n → of_disk disk (join_below (λ d. listed_in d (scans d)) n) ≡ listed_in disk (scans disk)
  unfolding join_below
  of_join zero h = absurd (omega arith)
  of_join (suc n) h =
      of_append disk (join_below (λ d. listed_in d (scans d)) n) (listed_in n (scans n)) ∙ go (leb n disk) refl (of_join n)
    where
      go : (b : Bool) → leb n disk ≡ b
          → (disk < n → of_disk disk (join_below (λ d. listed_in d (scans d)) n) ≡ listed_in disk (scans disk))
          → of_disk disk (join_below (λ d. listed_in d (scans d)) n) ++ of_disk disk (listed_in n (scans n)) ≡ listed_in disk (scans disk)
      go true e before =
          let last : n ≡ disk = omega (arith, leb-true n disk e) in
          rw (of_none n (omega (arith, last))) (ap (λ (i : ℕ). of_disk disk (listed_in i (scans i))) last ∙ of_own disk (scans disk))
      go false e before =
          let here = leb-false n disk e in
          rw (before here, of_other disk n (λ same. omega (arith, same, here)) (scans n)) (append-nil (listed_in disk (scans disk)))

disk_by_disk : (w : World) → DiskByDisk w
unfolding DiskByDisk listed_on
disk_by_disk w =
    let s : Sizes = sizes_on w.anchor in
    join_cong _ _ s.disks (λ disk below. sym (of_join (λ d. retained_from s (start_on w.anchor) w.logs d) disk s.disks below))

-- What a call for a shut store's lines answers, where the image passes the checks and the bytes have a right length.
module _ (c : Core) (w : World) (shut : c.stage ≡ Shut) (image : Checked w.anchor w.logs)
    (long : length w.logs ≡ log_words (sizes_on w.anchor)) (q : Look) (wrong : Bool) (number : ℕ)
    (rows : look_rows q c w ≡ list_rows c.stage wrong w.anchor w.logs number) (right : wrong ≡ false)
  where
    list_answers : number_of (result_of (look q) c w).answer ≡ cond (leb (length (listing w.anchor w.logs)) number) 8 0
    unfolding result_of look_task finishes stores
    list_answers =
        let v : verdict (look_rows q c w) ≡ cond (leb (length (listing w.anchor w.logs)) number) (rejected 8 0 0) accepted =
        ap verdict rows ∙ rw (right, shut) (list_verdict w.anchor w.logs image long number) in
        ap (λ (v : Verdict). number_of (conclude v 0 (look_task q c w) c w).answer) v
        ∙ go (leb (length (listing w.anchor w.logs)) number)
      where
        go : (b : Bool) → number_of (conclude (cond b (rejected 8 0 0) accepted) 0 (look_task q c w) c w).answer ≡ cond b 8 0
        go true = refl
        go false = refl

answers_line : (c : Core) (w : World) → c.stage ≡ Shut → Checked w.anchor w.logs → length w.logs ≡ log_words (sizes_on w.anchor)
    → (number : ℕ) → AnswersLine w number (number_of (result_of (look (list_line number line_bytes)) c w).answer)
unfolding line_after
answers_line c w shut image long number =
    let lines : ℕ = length (listing w.anchor w.logs) in
    let answer = list_answers c w shut image long (list_line number line_bytes) (not_a_line line_bytes) number refl refl in
    let rows = list_verdict w.anchor w.logs image long number in
    record {
      shown = λ h. answer ∙ rw (lt-leb lines number h) refl;
      line = λ h before bytes n is. is ∙ rw (n, rows, lt-leb lines number h) refl;
      past = λ h. answer ∙ rw (le-leb lines number h) refl;
      left = λ h before bytes n is. is ∙ rw (n, rows, le-leb lines number h) refl;
    }

-- A call for a line answers by its verdict alone, and where that accepts, what the bytes held before does not matter.
answered_by : (q : Look) (c : Core) (w : World) → (result_of (look q) c w).answer ≡ answer_by (verdict (look_rows q c w)) (look_value q w)
unfolding result_of look_task finishes stores made
answered_by q c w = go (verdict (look_rows q c w))
  where
    go : (v : Verdict) → (conclude v 0 (look_task q c w) c w).answer ≡ answer_by v (look_value q w)
    go accepted = refl
    go (rejected n first second) = refl

taken_filled : (v : Verdict) → outcome_of (answer_by v 0) ≡ taken → (line before other : List ℕ) → filled v line before ≡ filled v line other
taken_filled accepted took line before other = refl
taken_filled (rejected n first second) took line before other = let z : ◌≡◌ {A = ℕ} 0 1 = cc in absurd (omega arith)

pub one_listing : OneListing
unfolding OneListing line_after
one_listing c d v w number before other shut closed anchor logs same =
    let both : Verdict = verdict (list_rows Shut (not_a_line (length other)) w.anchor w.logs number) in
    let one : (result_of (look (list_line number (length before))) c v).answer ≡ answer_by both 0 =
    answered_by (list_line number (length before)) c v ∙ rw (shut, anchor, logs, same) refl in
    let another : (result_of (look (list_line number (length other))) d w).answer ≡ answer_by both 0 =
    answered_by (list_line number (length other)) d w ∙ rw closed refl in (
      one ∙ sym another,
      λ took. rw (shut, closed, anchor, logs, same) (taken_filled both (sym (ap outcome_of one) ∙ took) (get_or (listing w.anchor w.logs) number []) before other),
    )

-- A taken call for lines, by its verdict.
lines_taken : (c : Core) (w : World) (q : Look) → outcome_of (result_of (look q) c w).answer ≡ taken → verdict (look_rows q c w) ≡ accepted
lines_taken c w q took = (taken_call (look q) c w took).accepted

-- Where one line is asked for and the call accepted, it is so for each.
each_accepted : (stage : Stage) (wrong : Bool) (anchor logs : List ℕ) (number other : ℕ) → verdict (list_rows stage wrong anchor logs number) ≡ accepted
    → other < length (listing anchor logs) → verdict (list_rows stage false anchor logs other) ≡ accepted
unfolding list_rows lent_wrong
each_accepted stage wrong anchor logs number other ok there =
    let rows : List Row = image_rows (lent_wrong wrong logs) anchor logs in
    let first = row_passed _ _ ok in
    let shut = shut_stage stage (both (when_shut stage) true (not-false _ first.0)).0 in
    let h = rows_checked (lent_wrong wrong logs) anchor logs (accepted_first rows (row 8 (leb (length (listing anchor logs)) number) ∷ []) first.1) in
    let long = eqb-true _ _ (not-false _ (or_none (not (eqb (length logs) (log_words (sizes_on anchor)))) wrong h.1).0) in
    rw shut (list_verdict anchor logs h.0 long other ∙ rw (lt-leb (length (listing anchor logs)) other there) refl)

pub taken_listable : TakenListable
unfolding TakenListable
taken_listable c w number bytes took =
    let h = list_accepted c.stage (not_a_line bytes) w.anchor w.logs number (lines_taken c w (list_line number bytes) took) in
    (h.0, h.2)

-- what it answers and leaves
pub lines_are_lines : LinesAreLines
unfolding LinesAreLines lines_after line_after Returned look_task
lines_are_lines c w first before took =
    let k : Look = list_lines first (length before) in
    let rows = lines_taken c w k took in
    let h = list_accepted c.stage (not_lines (length before)) w.anchor w.logs first rows in
    let count = ((returned (look k) c w).finished took).1 in
    let written = lines_written w.anchor w.logs h.0 first before in
    record {
      written = rw (rows, count) written;
      each = λ i line l n.
          let there : first + i < length (listing w.anchor w.logs) = omega (arith, l, count, written.many) in
          let here = each_accepted c.stage (not_lines (length before)) w.anchor w.logs first (first + i) rows there in
          rw (rows, n, here) (written.each i (omega (arith, l, count)));
    }

pub one_listing_of_lines : OneListingOfLines
unfolding OneListingOfLines LinesAreLines
one_listing_of_lines c d v w first before other shut closed anchor logs same =
    let one : Answer = (result_of (look (list_lines first (length before))) c v).answer in
    let another : Answer = (result_of (look (list_lines first (length other))) d w).answer in
    let by : Answer = answer_by (verdict (list_rows Shut (not_lines (length other)) w.anchor w.logs first)) (length (lines_from w.anchor w.logs first (length other))) in
    let mine : one ≡ by = answered_by (list_lines first (length before)) c v ∙ rw (shut, anchor, logs, same) refl in
    let theirs : another ≡ by = answered_by (list_lines first (length other)) d w ∙ rw closed refl in
    let both : one ≡ another = mine ∙ sym theirs in (
      both,
      λ took i l.
          let line : get_or (listing v.anchor v.logs) (first + i) [] ≡ get_or (listing w.anchor w.logs) (first + i) [] = rw (anchor, logs) refl in
          (lines_are_lines c v first before took).written.each i l ∙ line
          ∙ sym ((lines_are_lines d w first other (sym (ap outcome_of both) ∙ took)).written.each i (subst (λ (a : Answer). i < first_of a) both l)),
    )

pub listing_shows : ListingShows
unfolding ListingShows LogKept result listed_on
listing_shows m s budget formats events a shut =
    let kept = (holding_kept (holds_after m s budget formats events a)).restartable in
    let long = (lengths_right_lem _ _ _ kept.lengths).logs in (
      λ disk below.
          let stored = (log_kept m s budget formats events a disk below).stored in
          record {
            stored = stored;
            lines = of_join _ disk _ below ∙ ap (listed_in disk) stored.finds;
          },
      disk_by_disk _,
      λ number. answers_line _ _ shut kept.image long number,
      λ first lines.
          let whole : not_lines (line_bytes * lines) ≡ false = rw (eq-eqb (line_bytes * lines % line_bytes) 0 (mul-mod_right line_bytes lines)) refl in
          list_answers _ _ shut kept.image long (list_lines first (line_bytes * lines)) _ first refl whole
          ∙ sym (list_answers _ _ shut kept.image long (list_line first line_bytes) _ first refl refl),
    )

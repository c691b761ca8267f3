-- Begin: which row applies, by what the code tests, and the words that it leaves in the head.
use Rattle.std.specs.Prelude.{Option, None, Some, MatchOption}
use mathlib.Core.Path.{◌≡◌, refl, sym, ap, ◌∙◌}
use mathlib.Core.List.{List, [], ◌∷◌, ◌++◌}
use mathlib.Core.Bool.{Bool, true, false, ◌&&◌, ◌||◌}
use Prim.Native.Nat.{ℕ, ◌+◌, ◌-◌, ◌≤◌, ◌<◌}
use native.Mathlib.Omega.{arith}
use lib.Dec.{leb}
use lib.ListN.{length, get_or, drop, take-append-drop}
use borrow.Author.Tests.{le-leb, lt-leb, leb-true, eq-eqb, ne_eqb}
use Rattle.model.specs.declared.Core.{Core}
use Rattle.model.specs.declared.Carried.{Carried}
use Rattle.model.specs.Word.{part}
use Rattle.model.specs.Anchor.{anchor_words}
use Rattle.model.specs.declared.Handed.{Handed}
use Rattle.model.specs.World.{World, world_of}
use Rattle.model.specs.State.{limit, place_of, kept_of, end_of, reserved_on}
use Rattle.model.specs.Sizes.{ring_of}
use Rattle.model.specs.Classes.{set_for}
use Rattle.model.specs.Room.{no_disk, has_room, load_of, eligible, idlest}
use Rattle.model.specs.Refusal.{Row, row, verdict, accepted, rejected}
use Rattle.model.specs.Causes.{when_serving, stage_forbids, anchor_wrong, lengths_wrong, table_full, spent}
use Rattle.model.specs.Reads.{counts_fit, fits_on}
use Rattle.model.specs.Transaction.{begin_rows, begun, begin_task}
use Rattle.model.specs.Call.{begin}
use Rattle.model.specs.View.{head_words, head_fills, head_sums, core_in, own_work, core_of, head_lists, head_of, body_of, Serves}
use Rattle.model.specs.Fields.{sums, put_words, entering}
use Rattle.model.proofs.Booleans.{both}
use Rattle.model.proofs.Meaning.{idlest_found}
use Rattle.model.proofs.Store.Accepted.{eligible_room}
use Rattle.model.proofs.View.Fields.{field_read, put_lists, Within, head_put}
use Rattle.model.proofs.View.Head.{own_view}
use Rattle.table.specs.Parts.{logs_of, sums_of, core_of as state_of, idlest_in}
use Rattle.table.proofs.HasRoom.{idlest_parts}
use Rattle.head.proofs.InTable.{entered_lists}
use Rattle.frame.specs.Handed.{finished_to}
use Rattle.frame.specs.Lent.{lent_refusal}
use Rattle.frame.proofs.FirstChecks.{view_rows, Ready, lent_refused, lent_passed, serving_ready}
use Rattle.frame.proofs.Shown.{shown_finished}

abbrev later_rows : ℕ → Core → List Row
later_rows class c = row 12 (table_full c) ∷ row 13 (spent c.next) ∷ row 14 (leb no_disk (idlest c class 2)) ∷ []

-- a begin tests no word of the state
no_test : (counts wrong : Bool) → counts ≡ counts && (wrong || true)
no_test true true = refl
no_test true false = refl
no_test false wrong = refl

rows_begin : (class : ℕ) (c : Core) (w : World) → begin_rows c w class ≡ view_rows true c w (later_rows class c)
unfolding begin_rows fits_on
rows_begin class c w =
    ap (λ (fits : Bool). row 1 (stage_forbids when_serving fits c) ∷ row 2 (anchor_wrong w.anchor) ∷ row 5 (lengths_wrong c.sizes c.bases.total w) ∷ later_rows class c)
    (no_test (counts_fit c) (lengths_wrong c.sizes c.bases.total w))

module _ (class : ℕ) (h : Carried) (w : World) {r : ℕ}
    (answer : r ≡ lent_refusal (when_serving h.stage) h.pages h.disks h.ring h.total (length w.anchor) (length w.pages) (length w.backups) (length w.logs) (length w.work))
  where
    abbrev c : Core
    c = core_of h w.work

    pub begin_refused : (r ≡ 0 → ⊥) → verdict (begin_rows c (body_of w) class) ≡ rejected r 0 0
    begin_refused some = ap verdict (rows_begin class c (body_of w)) ∙ lent_refused h w answer some true (later_rows class c)

    module _ (none : r ≡ 0) where
      first_passed : verdict (begin_rows c (body_of w) class) ≡ verdict (row 1 false ∷ row 2 (anchor_wrong w.anchor) ∷ later_rows class c)
      first_passed = ap verdict (rows_begin class c (body_of w)) ∙ lent_passed h w answer none true (later_rows class c)

      pub begin_anchor : (length w.anchor ≡ anchor_words → ⊥) → verdict (begin_rows c (body_of w) class) ≡ rejected 2 0 0
      unfolding verdict anchor_wrong
      begin_anchor other = first_passed ∙ rw (ne_eqb (length w.anchor) anchor_words other) refl

      module _ (right : length w.anchor ≡ anchor_words) where
        later : verdict (begin_rows c (body_of w) class) ≡ verdict (later_rows class c)
        unfolding verdict anchor_wrong
        later = first_passed ∙ rw (eq-eqb (length w.anchor) anchor_words right) refl

        pub begin_full : 16 ≤ place_of c.table 0 → verdict (begin_rows c (body_of w) class) ≡ rejected 12 0 0
        unfolding verdict table_full
        begin_full full = later ∙ rw (le-leb 16 (place_of c.table 0) full) refl

        module _ (place : place_of c.table 0 < 16) where
          pub begin_spent : limit ≤ h.next → verdict (begin_rows c (body_of w) class) ≡ rejected 13 0 0
          unfolding verdict table_full spent core_of
          begin_spent high = later ∙ rw (lt-leb 16 (place_of c.table 0) place, le-leb limit h.next high) refl

          module _ (low : h.next < limit) where
            pub begin_crowded : 8 ≤ idlest c class 2 → verdict (begin_rows c (body_of w) class) ≡ rejected 14 0 0
            unfolding verdict table_full spent core_of
            begin_crowded no_disk_lem =
                later ∙ rw (lt-leb 16 (place_of c.table 0) place, lt-leb limit h.next low, le-leb 8 (idlest c class 2) no_disk_lem) refl

            pub begin_accepted : idlest c class 2 < 8 → verdict (begin_rows c (body_of w) class) ≡ accepted
            unfolding verdict table_full spent core_of
            begin_accepted disk =
                later ∙ rw (lt-leb 16 (place_of c.table 0) place, lt-leb limit h.next low, lt-leb 8 (idlest c class 2) disk) refl

-- The disk that is chosen has room: so the sum of its reserved words has room for two more.
room_sum : (c : Core) (disk : ℕ) → has_room c 2 disk ≡ true → reserved_on c.table disk + 2 ≤ limit
unfolding has_room
room_sum c disk e =
    let x = both (leb (end_of c.logs disk - kept_of c.logs disk + reserved_on c.table disk + 2) (ring_of c.sizes disk)) (leb (end_of c.logs disk + reserved_on c.table disk + 2) limit) e in
    omega (arith, leb-true (end_of c.logs disk + reserved_on c.table disk + 2) limit x.1)

chosen_sum : (class : ℕ) (c : Core) → c.sizes.disks ≤ 8 → idlest c class 2 < 8 → reserved_on c.table (idlest c class 2) + 2 ≤ limit
unfolding idlest
chosen_sum class c eight low =
    room_sum c (idlest c class 2)
    (eligible_room c class 2 (idlest c class 2) (idlest_found (eligible c class 2) (load_of c.logs) c.sizes.disks eight low).passes)

-- the kept sum is a word of the head
sum_read : (h : Carried) (work : List ℕ) → own_work h work ≡ true → (disk : ℕ) → disk < 8
    → reserved_on (core_of h work).table disk ≡ get_or work (head_sums + disk) 0
unfolding reserved_on
sum_read h work own disk low = field_read h work own sums disk low

pub chosen_word : (class : ℕ) (h : Carried) (work : List ℕ) → own_work h work ≡ true → h.disks ≤ 8 → {disk : ℕ} → disk ≡ idlest (core_of h work) class 2 → disk < 8
    → get_or work (head_sums + disk) 0 + 2 ≤ limit
unfolding core_of
chosen_word class h work own eight {disk} same low =
    let fits = rw (← same) at (chosen_sum class (core_of h work) eight (omega (arith, same, low))) in
    omega (arith, fits, sum_read h work own disk low)

-- The choice among the words of the head is that of the view.
pub idlest_words : (h : Carried) (work : List ℕ) → own_work h work ≡ true → (class : ℕ) → {disks ring set : ℕ} {starts tails : List ℕ}
    → h.disks ≡ disks → h.ring ≡ ring → h.starts ≡ starts → h.tails ≡ tails → set ≡ set_for h.classes class
    → idlest_in set (state_of disks ring (logs_of starts tails (part head_fills 8 work)) (sums_of (part head_sums 8 work))) ≡ idlest (core_of h work) class 2
idlest_words h work own class disks ring starts tails set =
    rw (← disks, ← ring, ← starts, ← tails, set, own_view h work own) (idlest_parts (core_in h work) class)

-- a disk that is chosen, or none, by another number that is the same
pub chosen_same : (disk : Option ℕ) {n m : ℕ} → n ≡ m → MatchOption disk (n ≡ no_disk) (λ d. d ≡ n) → MatchOption disk (m ≡ no_disk) (λ d. d ≡ m)
chosen_same None same told = sym same ∙ told
chosen_same (Some d) same told = told ∙ same

-- The work memory after a begin.
pub begun_words : (class : ℕ) (h : Carried) (work : List ℕ) → own_work h work ≡ true → {place disk sum : ℕ} → place ≡ place_of (core_of h work).table 0
    → disk ≡ idlest (core_of h work) class 2 → place < 16 → disk < 8 → sum ≡ get_or work (head_sums + disk) 0 + 2
    → {after : List ℕ} → after ≡ put_words (entering place h.next disk 0 2 sum) work
    → after ≡ head_of (begun (core_of h work) class) ++ drop head_words work
unfolding begun Within core_of
begun_words class h work own {place} {disk} {sum} p d place_low disk_low s e =
    let c = core_of h work in
    let total : sum ≡ reserved_on c.table disk + 2 = s ∙ ap (λ (n : ℕ). n + 2) (sym (sum_read h work own disk disk_low)) in
    let lists : head_lists (begun c class) ≡ put_lists (entering place h.next disk 0 2 sum) (head_lists c) =
    rw (p, total, d) (entered_lists c (h.next + 1) (place_of c.table 0) h.next (idlest c class 2) 0 2 (reserved_on c.table (idlest c class 2) + 2)) in
    e ∙ ap (put_words (entering place h.next disk 0 2 sum)) (sym (take-append-drop head_words work))
    ∙ head_put h work (drop head_words work) own (entering place h.next disk 0 2 sum)
    (place_low, (place_low, (place_low, (place_low, (disk_low, tt))))) (begun c class) lists

-- what is carried after it
abbrev numbered : Carried → Carried
numbered h =
    record {
      stage = h.stage;
      pages = h.pages;
      disks = h.disks;
      ring = h.ring;
      total = h.total;
      epoch = h.epoch;
      next = h.next + 1;
      copied = h.copied;
      starts = h.starts;
      tails = h.tails;
      ends = h.ends;
      classes = h.classes;
    }

pub begin_serves : (class : ℕ) (h : Carried) (w : World) → Ready h w → verdict (begin_rows (core_of h w.work) (body_of w) class) ≡ accepted
    → {work : List ℕ} → work ≡ head_of (begun (core_of h w.work) class) ++ drop head_words w.work
    → {reply : Handed} → reply ≡ finished_to (numbered h) 0 h.next
    → Serves (begin class) h w reply 0 (world_of w.anchor w.pages w.backups w.logs work)
unfolding begin_task begun core_of body_of
begin_serves class h w ready ok head reply =
    shown_finished (begin class) h w ok refl refl (serving_ready h w ready) head {carried = numbered h} refl reply

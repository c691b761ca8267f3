-- Update: its task by the functions that it calls, and what it gives.
use mathlib.Core.Path.{◌≡◌, refl, sym, ap, ◌∙◌}
use mathlib.Core.List.{List, ◌++◌, append-nil}
use mathlib.Core.Bool.{true, false}
use Prim.Native.Nat.{ℕ, ◌+◌, ◌-◌, ◌≤◌, ◌<◌}
use native.Mathlib.Omega.{arith}
use lib.ListN.{length, set, take, drop, length-append, length-drop, drop_of_length-le}
use lib.Seq.{length-take-le, set-get_or}
use borrow.Author.Tests.{ne_eqb}
use borrow.Author.Rules.{part_to_end}
use Rattle.model.specs.declared.Sizes.{Sizes}
use Rattle.model.specs.declared.Core.{Core}
use Rattle.model.specs.declared.Carried.{Carried}
use Rattle.model.specs.declared.Logs.{Logs}
use Rattle.model.specs.declared.Table.{Table}
use Rattle.model.specs.declared.Handed.{Handed}
use Rattle.model.specs.Record.{encode, words_of, update_kind}
use Rattle.model.specs.World.{World, world_of}
use Rattle.model.specs.State.{tail_of, fill_of, with_log, with_place, with_reserved}
use Rattle.model.specs.Causes.{when_shut}
use Rattle.model.specs.Refusal.{verdict, accepted}
use Rattle.model.specs.Transaction.{slot_words, update_record, updated, update_rows, update_task}
use Rattle.model.specs.Call.{update}
use Rattle.model.specs.View.{head_words, own_work, core_of, carried_of, head_of, body_of, Serves}
use Rattle.model.specs.Fields.{put_words, entering, filling}
use Rattle.model.proofs.RecordSizes.{words_change}
use Rattle.model.proofs.View.Laid.{set_in}
use Rattle.model.proofs.View.Head.{own_work_lem, carried_back}
use Rattle.model.proofs.View.Fields.{put_lists, Within as within_head, head_put}
use Rattle.disk_log.specs.declared.write.Head.{Head}
use Rattle.disk_log.specs.declared.write.Home.{Home}
use Rattle.access.specs.declared.change.Changed.{Changed}
use Rattle.disk_log.specs.Write.{Within, Encodable, Lent}
use Rattle.frame.specs.Handed.{refused_to, finished_to, cut_to}
use Rattle.frame.specs.Home.{home_of, with_disk}
use Rattle.frame.proofs.Homes.{home_lent}
use Rattle.frame.proofs.Shown.{shown_refused, shown_whole, shown_cut}
use Rattle.frame.specs.declared.refusal.Refusal.{Refusal}
use Rattle.frame.specs.Refusal.{number_of}
use Rattle.frame.proofs.Refusals.{numbered}
use Rattle.std.specs.Prelude.{Result, Ok, Err, None, Some}
use Rattle.access.specs.declared.plan.Plan.{Plan}
use Rattle.access.specs.Tasks.{with_memory, replacing, Replaced}
use Rattle.access.specs.Plans.{Plans, Planned}
use Rattle.access.proofs.Differences.{record_length}

-- a row refuses it
pub update_refused : (h : Carried) (w : World) {number page slot : ℕ} (value : List ℕ) {r : Result Plan Refusal} (budget : ℕ)
    → Planned h w number page slot (length value) r → (refusal : Refusal) → r ≡ Err refusal → {reply : Handed} → reply ≡ refused_to h (number_of refusal) 0 0
    → Serves (update number page slot value budget) h w reply budget w
update_refused h w {number} {page} {slot} value budget planned refusal away reply =
    shown_refused (update number page slot value budget) h w
    (planned.rows value refl ∙ rw (away, ne_eqb (number_of refusal) 0 (numbered refusal)) refl) reply

-- none does
pub update_taken : (h : Carried) (w : World) {number page slot : ℕ} (value : List ℕ) {r : Result Plan Refusal} {p : Plan}
    → Planned h w number page slot (length value) r → r ≡ Ok p → verdict (update_rows (core_of h w.work) (body_of w) number page slot value) ≡ accepted
update_taken h w value planned there = planned.rows value refl ∙ rw there refl

-- what its record says beside the difference
abbrev pub head_of_change : (page slot number copy : ℕ) → Head
head_of_change page slot number copy = record { kind = 0; page = page; slot = slot; number = number; copy = copy }

module _ (h : Carried) (w : World) (own : own_work h w.work ≡ true) {number page slot : ℕ} (value : List ℕ) {p : Plan}
    (plans : Plans (core_of h w.work) (body_of w) number page slot (length value) p) where
  abbrev c : Core
  c = core_of h w.work

  abbrev head : Head
  head = head_of_change page slot number p.copy

  -- its disk, by the numbers
  pub home_is : {home : Home} → ((s : Sizes) (l : Logs) → s.ring ≡ h.ring → tail_of l p.disk ≡ p.tail → fill_of l p.disk ≡ p.fill → home ≡ home_of s l p.disk)
      → home ≡ home_of c.sizes c.logs p.disk
  home_is e = e c.sizes c.logs (ap (λ (x : Carried). x.ring) (carried_back h w.work)) (sym plans.tail) (sym plans.fill)

  pub home_disk : {home : Home} → home ≡ home_of c.sizes c.logs p.disk → home.disk ≡ p.disk
  unfolding home_of
  home_disk e = ap (λ (x : Home). x.disk) e

  -- what its work is lent
  pub change_ready : {home : Home} → home ≡ home_of c.sizes c.logs p.disk
      → Within home (body_of w).logs (body_of w).work × Encodable head (length value) × (p.at + length value ≤ length (body_of w).pages) × (p.owner < length (body_of w).work)
  change_ready e = (
    rw e plans.home,
    record { kind_small = omega arith; page_small = plans.page_small; slot_small = plans.slot_small; width_small = plans.width_max },
    plans.end,
    plans.owner_within,
  )

  pub change_lent : {home : Home} → home ≡ home_of c.sizes c.logs p.disk → Lent c.sizes c.logs (body_of w) home (body_of w).logs (body_of w).work
  change_lent e = rw e (home_lent c.sizes c.logs (body_of w) p.disk)

  -- its task
  actions_are : (replacing c.sizes c.logs (body_of w) p.disk head p.at value).actions ≡ (update_task c (body_of w) number page slot value).actions
  unfolding replacing update_task update_record slot_words
  actions_are = rw (← plans.same_width, ← plans.at, ← plans.disk, ← plans.copy) refl

  words_are : length (encode (update_record c (body_of w) number page slot value)) ≡ words_of update_kind (length value)
  unfolding update_record slot_words
  words_are =
      rw (← plans.same_width, ← plans.at, ← plans.copy)
      (record_length p.at value (body_of w).pages plans.end head ∙ sym (words_change update_kind (length value) (omega arith)))

  abbrev table_after_lem : Table
  table_after_lem = with_reserved (with_place c.table p.place number p.disk p.first p.reserved) p.disk p.sum

  table_is : updated c number (words_of update_kind (length value)) ≡ table_after_lem
  unfolding updated
  table_is = rw (← plans.place, ← plans.disk, ← plans.first, ← plans.reserved, ← plans.sum) refl

  core_is : (update_task c (body_of w) number page slot value).core
      ≡ with_log c (replacing c.sizes c.logs (body_of w) p.disk head p.at value).logs table_after_lem
  unfolding replacing update_task update_record slot_words
  core_is = rw (words_are, table_is, ← plans.same_width, ← plans.at, ← plans.disk, ← plans.copy) refl

  -- its work, cut or whole
  module _ (rows : verdict (update_rows c (body_of w) number page slot value) ≡ accepted) {budget rest : ℕ} {pages logs body : List ℕ} where
    pub update_cut : Replaced budget rest c.sizes c.logs p.disk head p.at value (body_of w) (with_memory (body_of w) pages logs body) None
        → {work : List ℕ} → work ≡ take head_words w.work ++ body → {reply : Handed} → reply ≡ cut_to (budget - rest)
        → Serves (update number page slot value budget) h w reply rest (world_of w.anchor pages w.backups logs work)
    unfolding body_of
    update_cut did head_left reply =
        shown_cut (update number page slot value budget) h w rows (rw actions_are at did.ran) head_left reply

    module _ {r : Changed}
        (did : Replaced budget rest c.sizes c.logs p.disk head p.at value (body_of w) (with_memory (body_of w) pages logs body) (Some r)) where
      abbrev after : Core
      after = with_log c (with_disk c.logs p.disk r.tip.tail r.tip.fill) table_after_lem

      core_after : (update_task c (body_of w) number page slot value).core ≡ after
      core_after = core_is ∙ ap (λ (l : Logs). with_log c l table_after_lem) did.state

      serving_after : when_shut (update_task c (body_of w) number page slot value).core.stage ≡ false
      unfolding with_log
      serving_after =
          ap (λ (x : Core). when_shut x.stage) core_after ∙ ap (λ (x : Carried). when_shut x.stage) (carried_back h w.work)
          ∙ (own_work_lem h w.work own).serving

      head_after_lem : put_words (filling p.disk r.tip.fill)
          (put_words (entering p.place number p.disk p.first p.reserved p.sum) (take head_words w.work ++ body))
          ≡ head_of after ++ body
      unfolding put_words put_lists set_in with_log with_reserved with_place within_head
      head_after_lem =
          head_put h w.work body own (entering p.place number p.disk p.first p.reserved p.sum ++ filling p.disk r.tip.fill)
          (plans.place_low, (plans.place_low, (plans.place_low, (plans.place_low, (plans.disk_low, (plans.disk_low, tt)))))) after refl

      carried_after : carried_of after
          ≡ record {
            stage = h.stage;
            pages = h.pages;
            disks = h.disks;
            ring = h.ring;
            total = h.total;
            epoch = h.epoch;
            next = h.next;
            copied = h.copied;
            starts = h.starts;
            tails = set h.tails p.disk r.tip.tail;
            ends = h.ends;
            classes = h.classes;
          }
      unfolding with_log core_of
      carried_after = refl

      value_is : (update_task c (body_of w) number page slot value).value ≡ r.ones
      unfolding update_task update_record slot_words
      value_is = rw (← plans.same_width, ← plans.at) (sym did.ones)

      pub update_finished : {work : List ℕ}
          → work ≡ put_words (filling p.disk r.tip.fill) (put_words (entering p.place number p.disk p.first p.reserved p.sum) (take head_words w.work ++ body))
          → {reply : Handed}
          → reply ≡ finished_to (record { stage = h.stage; pages = h.pages; disks = h.disks; ring = h.ring; total = h.total; epoch = h.epoch; next = h.next; copied = h.copied; starts = h.starts; tails = set h.tails p.disk r.tip.tail; ends = h.ends; classes = h.classes }) (budget - rest) r.ones
          → Serves (update number page slot value budget) h w reply rest (world_of w.anchor pages w.backups logs work)
      unfolding body_of
      update_finished head_left reply =
          shown_whole (update number page slot value budget) h w rows (rw actions_are at did.ran) serving_after
          (head_left ∙ head_after_lem ∙ ap (λ (x : Core). head_of x ++ body) (sym core_after)) (sym carried_after ∙ ap carried_of (sym core_after)) (rw value_is reply)

      -- where nothing is flushed, the tail stays, and with it all that is carried
      pub update_unmoved : r.tip.tail ≡ p.tail → {work : List ℕ}
          → work ≡ put_words (filling p.disk r.tip.fill) (put_words (entering p.place number p.disk p.first p.reserved p.sum) (take head_words w.work ++ body))
          → {reply : Handed} → reply ≡ finished_to h (budget - rest) r.ones
          → Serves (update number page slot value budget) h w reply rest (world_of w.anchor pages w.backups logs work)
      unfolding tail_of core_of
      update_unmoved stays head_left reply =
          let same : set h.tails p.disk r.tip.tail ≡ h.tails = rw (stays, plans.tail) (set-get_or h.tails p.disk 0) in
          update_finished head_left (rw same reply)

-- The body as it is lent, and the whole when it is back.
pub body_lent : (work : List ℕ) → take (length work - head_words) (drop head_words work) ≡ drop head_words work
body_lent work = part_to_end work head_words

pub body_kept : (work body : List ℕ) → take head_words work ++ (body ++ drop (length work - head_words) (drop head_words work)) ≡ take head_words work ++ body
body_kept work body =
    ap (λ (rest : List ℕ). take head_words work ++ (body ++ rest))
    (drop_of_length-le (drop head_words work) {i = length work - head_words} (omega (arith, length-drop head_words work)))
    ∙ ap (λ (l : List ℕ). take head_words work ++ l) (append-nil body)

pub head_there : (work rest : List ℕ) → head_words ≤ length work → head_words ≤ length (take head_words work ++ rest)
head_there work rest long = omega (arith, length-append (take head_words work) rest, length-take-le head_words work long)

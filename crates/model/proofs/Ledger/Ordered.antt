-- The steps that keep a ledger's entries in order: one more entry, a disk's flush, and a later start of each disk.
use mathlib.Core.Path.{◌≡◌, refl, sym, ap, ◌∙◌}
use mathlib.Core.List.{List, [], ◌∷◌, ◌++◌, append_assoc}
use mathlib.Core.Bool.{Bool, true, false, not, ◌&&◌}
use Prim.Native.Nat.{ℕ, ◌+◌, ◌≤◌, ◌<◌}
use native.Mathlib.Omega.{arith}
use native.Mathlib.Decide.{ℕ_discrete}
use lib.Dec.{leb, eqb}
use lib.ListN.{length, length-append}
use borrow.Author.Tests.{le-leb, eqb-true, eq-eqb, ne_eqb}
use Rattle.model.proofs.Ledger.Entry.{Entry, is_close, All, pick, closed_in, on_disk}
use Rattle.model.proofs.Ledger.Order.{size_of, words_of, on, Laid, boundary, Ordered}
use Rattle.model.proofs.Ledger.Sums.{all_map, all_zip, all_append, all_right}
use Rattle.model.proofs.Ledger.Picks.{all_pick, pick_all, none_some}
use Rattle.model.proofs.Ledger.Lists.{all_left, all_flush, pick_append, pick_whole, pick_only, pick_swap, some_pick, on_append, on_more, on_less, off_more, on_flush}
use Rattle.model.proofs.Ledger.Positions.{laid_append, append_laid, laid_from, laid_within, laid_after, Suffix, boundary_suffix}
use Rattle.model.proofs.Booleans.{true_false}

-- a closing record of t has its number
pub closes_number : (q : Entry) (t : ℕ) → is_close q && eqb q.number t ≡ true → q.number ≡ t
closes_number q t c = go (is_close q) c
  where
    go : (b : Bool) → b && eqb q.number t ≡ true → q.number ≡ t
    go true x = eqb-true q.number t x
    go false x = true_false x refl

-- r comes no later than q, if q closes r's transaction
abbrev pub Before : Entry → Entry → Type 0
Before r q = is_close q && eqb q.number r.number ≡ true → r.position ≤ q.position

-- no entry of a transaction comes after one that closes it
abbrev pub ClosesLast : List Entry → Type 0
ClosesLast [] = Unit {0}
ClosesLast (r ∷ l) = (is_close r ≡ true → All (λ q. eqb q.number r.number ≡ false) l) × ClosesLast l

laid_closes_last : (p : ℕ) (l : List Entry) → Laid p l → All (λ r. All (Before r) l) l → ClosesLast l
laid_closes_last p [] h a = tt
laid_closes_last p (r ∷ l) h a = (
  (λ c. all_zip (one c) l (laid_after p [] r l h) (all_map (λ q x. x.0) l a.1)),
  laid_closes_last (p + size_of r) l h.1 (all_map (λ q x. x.1) l a.1),
)
  where
    one : is_close r ≡ true → (q : Entry) → r.position < q.position → Before q r → eqb q.number r.number ≡ false
    one c q after before = ne_eqb q.number r.number (λ e. omega (arith, before (rw (c, eq-eqb r.number q.number (sym e)))))

module _ {disks : ℕ} {start home : ℕ → ℕ} {F B : List Entry} (o : Ordered disks start home F B) where
  -- An entry at the end of its disk, of a transaction that is not closed.
  module _ (r : Entry) (inside : r.disk < disks) (homed : r.disk ≡ home r.number) (unclosed : closed_in (F ++ B) r.number ≡ false)
      (at_end : r.position ≡ start r.disk + length (words_of (on r.disk F ++ on r.disk B))) where
    end_laid : (d : ℕ) → d < disks → Dec (r.disk ≡ d) → Laid (start d) (on d F ++ on d (B ++ r ∷ []))
    end_laid d h (yes same) =
        let there : r.position ≡ start d + length (words_of (on d F ++ on d B)) = rw same at at_end in
        rw (on_more d B r same, ← append_assoc)
        (append_laid (start d) (on d F ++ on d B) (r ∷ []) (o.laid d h) (there, tt))
    end_laid d h (no ne) = rw (on_less d B r ne) (o.laid d h)

    -- the entries of r's transaction lie on its disk, before it
    append_after : All (λ x. Before x r) (F ++ B)
    unfolding on_disk on
    append_after = all_zip one (F ++ B) o.homed (pick_only _ (on_disk r.disk) (F ++ B) (rw on_append placed))
      where
        placed : All (λ x. x.position ≤ r.position) (on r.disk F ++ on r.disk B)
        placed =
            all_map (λ x h. omega arith) (on r.disk F ++ on r.disk B)
            (laid_within (start r.disk) (on r.disk F ++ on r.disk B) (o.laid r.disk inside))

        one : (x : Entry) → x.disk ≡ home x.number → (on_disk r.disk x ≡ true → x.position ≤ r.position) → Before x r
        one x h k c = k (eq-eqb x.disk r.disk (h ∙ ap home (sym (closes_number r x.number c)) ∙ sym homed))

    -- and none of them closes it
    append_open : All (λ q. Before r q) (F ++ B)
    unfolding closed_in
    append_open = all_map (λ q no yes. true_false yes no) (F ++ B) (none_some _ (F ++ B) unclosed)

    pub ordered_append : Ordered disks start home F (B ++ r ∷ [])
    ordered_append = record {
      laid = λ d h. end_laid d h (ℕ_discrete r.disk d);
      inside = rw (← append_assoc) (all_append _ (F ++ B) (r ∷ []) o.inside (inside, tt));
      homed = rw (← append_assoc) (all_append _ (F ++ B) (r ∷ []) o.homed (homed, tt));
      last = rw (← append_assoc)
          (all_append _ (F ++ B) (r ∷ [])
          (all_zip (λ x old new. all_append _ (F ++ B) (r ∷ []) old (new, tt)) (F ++ B) o.last append_after)
          (all_append _ (F ++ B) (r ∷ []) append_open ((λ c. omega arith), tt), tt));
    }

  -- A flush of a disk.
  pub ordered_flush : (d : ℕ) → Ordered disks start home (F ++ on d B) (pick (λ r. not (on_disk d r)) B)
  unfolding on
  ordered_flush d = record {
    laid = λ e h. rw (on_flush d F B e) (o.laid e h);
    inside = all_flush _ (on_disk d) F B o.inside;
    homed = all_flush _ (on_disk d) F B o.homed;
    last = all_flush _ (on_disk d) F B (all_map (λ r h. all_flush _ (on_disk d) F B h) (F ++ B) o.last);
  }

  -- Closing records on one disk: a transaction's entries lie on its disk only.
  pub closed_on : (d t : ℕ) → home t ≡ d → closed_in (on d F) t ≡ closed_in F t
  unfolding closed_in on on_disk
  closed_on d t e = some_pick _ (on_disk d) F (all_map there F (all_left _ F B o.homed))
    where
      there : (q : Entry) → q.disk ≡ home q.number → is_close q && eqb q.number t ≡ true → on_disk d q ≡ true
      there q h c = eq-eqb q.disk d (h ∙ ap home (closes_number q t c) ∙ e)

  pub closed_same : (d : ℕ) → All (λ r. closed_in (on d F) r.number ≡ closed_in F r.number) (on d F)
  unfolding on_disk on
  closed_same d = all_zip one (on d F) (pick_all (on_disk d) F) (all_pick _ (on_disk d) F (all_left _ F B o.homed))
    where
      one : (r : Entry) → on_disk d r ≡ true → r.disk ≡ home r.number → closed_in (on d F) r.number ≡ closed_in F r.number
      one r x h = closed_on d r.number (sym h ∙ eqb-true r.disk d x)

  -- and a closing record is followed by no other of its transaction
  pub closes_last : (d : ℕ) → d < disks → ClosesLast (on d F)
  unfolding on
  closes_last d h =
      laid_closes_last (start d) (on d F) (laid_append (start d) (on d F) (on d B) (o.laid d h)).0
      (all_pick _ (on_disk d) F (all_map (λ r x. all_pick _ (on_disk d) F (all_left _ F B x)) F (all_left _ F B o.last)))

-- A commit: the closing record at the end of its disk, and the disk flushed.
pub ordered_commit : {disks : ℕ} {start home : ℕ → ℕ} {F : List Entry} (B : List Entry) (r : Entry) → Ordered disks start home F (B ++ r ∷ [])
    → Ordered disks start home (F ++ (on r.disk B ++ r ∷ [])) (pick (λ q. not (on_disk r.disk q)) B)
ordered_commit B r o = rw (on_more r.disk B r refl, off_more r.disk B r refl) at (ordered_flush o r.disk)

-- an entry from its disk's start on
abbrev pub from_start : (ℕ → ℕ) → Entry → Bool
from_start start r = leb (start r.disk) r.position

-- what holds of each disk's entries holds of all
each_disk : (n : ℕ) (P : Entry → Type 0) (l : List Entry) → All (λ r. r.disk < n) l → ((d : ℕ) → d < n → All (λ r. r.disk ≡ d → P r) l) → All P l
each_disk n P [] inside h = tt
each_disk n P (r ∷ l) inside h = ((h r.disk inside.0).0 refl, each_disk n P l inside.1 (λ d m. (h d m).1))

-- Later starts, each a boundary of its disk's flushed entries: what lies before them goes, and what is buffered stays.
module _ {disks : ℕ} {start home : ℕ → ℕ} {F B : List Entry} (o : Ordered disks start home F B) (start' : ℕ → ℕ) where
  on_from_start : (d : ℕ) → on d (pick (from_start start') F) ≡ pick (λ r. leb (start' d) r.position) (on d F)
  unfolding on on_disk
  on_from_start d = pick_swap (on_disk d) (from_start start') (λ r. leb (start' d) r.position) (λ r x. rw (eqb-true r.disk d x)) F

  pub all_from_start : (P : Entry → Type 0) → All P (F ++ B) → All P (pick (from_start start') F ++ B)
  all_from_start P h = all_append P (pick (from_start start') F) B (all_pick P (from_start start') F (all_left P F B h)) (all_right P F B h)

  -- One disk.
  module _ (d : ℕ) (h : d < disks) (cut : boundary (start' d) (start d) (on d F) ≡ true) where
    -- its flushed entries and their words are what is left from the start on
    pub switch_suffix : Suffix (start d) (start' d) (on d F) (on d (pick (from_start start') F))
    switch_suffix = rw (on_from_start d) (boundary_suffix (start d) (start' d) (on d F) (laid_append (start d) (on d F) (on d B) (o.laid d h)).0 cut)

    -- they end where they did
    same_end : start' d + length (words_of (on d (pick (from_start start') F))) ≡ start d + length (words_of (on d F))
    same_end =
        let k = switch_suffix in
        omega (arith, k.cut, ap length k.words ∙ length-append k.front (words_of (on d (pick (from_start start') F))))

    -- so what is buffered lies after the start
    buffer_after : All (λ r. start' d ≤ r.position) (on d B)
    buffer_after =
        all_map (λ r x. omega (arith, same_end)) (on d B)
        (laid_from (start d + length (words_of (on d F))) (on d B) (laid_append (start d) (on d F) (on d B) (o.laid d h)).1)

    pub laid_switch : Laid (start' d) (on d (pick (from_start start') F) ++ on d B)
    laid_switch =
        append_laid (start' d) (on d (pick (from_start start') F)) (on d B) switch_suffix.laid
        (rw same_end (laid_append (start d) (on d F) (on d B) (o.laid d h)).1)

    -- the entries from the start on
    pub on_switch : on d (pick (from_start start') F) ++ on d B ≡ pick (λ r. leb (start' d) r.position) (on d F ++ on d B)
    on_switch =
        rw (on_from_start d, pick_append, pick_whole (λ r. leb (start' d) r.position) (on d B) (all_map (λ r x. le-leb (start' d) r.position x) (on d B) buffer_after))

  -- All disks.
  module _ (cut : (d : ℕ) → d < disks → boundary (start' d) (start d) (on d F) ≡ true) where
    buffer_stays : All (λ r. from_start start' r ≡ true) B
    unfolding on on_disk
    buffer_stays = each_disk disks _ B (all_right _ F B o.inside) one
      where
        one : (d : ℕ) → d < disks → All (λ r. r.disk ≡ d → from_start start' r ≡ true) B
        one d h =
            all_map (λ r x same. rw same (le-leb (start' d) r.position (x (eq-eqb r.disk d same)))) B
            (pick_only (λ r. start' d ≤ r.position) (on_disk d) B (buffer_after d h (cut d h)))

    pub switch_from_start : pick (from_start start') (F ++ B) ≡ pick (from_start start') F ++ B
    switch_from_start = rw (pick_append, pick_whole (from_start start') B buffer_stays)

    pub ordered_switch : Ordered disks start' home (pick (from_start start') F) B
    ordered_switch = record {
      laid = λ d h. laid_switch d h (cut d h);
      inside = all_from_start _ o.inside;
      homed = all_from_start _ o.homed;
      last = all_from_start _ (all_map (λ r h. all_from_start _ h) (F ++ B) o.last);
    }

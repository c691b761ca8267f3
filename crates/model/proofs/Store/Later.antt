-- Entries cut at a boundary, and a log that starts there: what it holds is still the last of what was put.
use mathlib.Core.Path.{◌≡◌, refl, sym, ap, subst, ◌∙◌}
use mathlib.Core.List.{List, [], ◌∷◌, ◌++◌, map, map-append, append_assoc}
use mathlib.Core.Bool.{Bool, true, false, ◌||◌}
use Prim.Native.Nat.{ℕ, ◌+◌, ◌≤◌, ◌<◌}
use native.Mathlib.Omega.{arith}
use lib.Dec.{leb, eqb}
use lib.ListN.{length, length-append}
use borrow.Author.Tests.{le-leb, lt-leb, eqb-true, ne_eqb}
use Rattle.model.specs.Record.{Record, encode_all}
use Rattle.model.proofs.Ledger.Entry.{Entry, record_of, All, pick, on_disk}
use Rattle.model.proofs.Ledger.Order.{Ordered, size_of, words_of, on, Laid, boundary}
use Rattle.model.proofs.Ledger.Sums.{all_map, all_zip}
use Rattle.model.proofs.Ledger.Lists.{all_left, pick_swap, pick_whole, words_none, length_words}
use Rattle.model.proofs.Ledger.Picks.{all_pick, pick_all}
use Rattle.model.proofs.RoundTrip.{encode_append, updates_append}
use Rattle.model.proofs.Ledger.Positions.{size_ge, laid_append, laid_from, boundary_from}
use Rattle.model.proofs.Ledger.Ordered.{from_start}
use Rattle.model.proofs.Store.View.{Since}
use Rattle.model.proofs.Booleans.{true_false}
use Rattle.model.proofs.Store.Told.{updates_none}

-- a boundary splits the entries into those before it and those from it on
pub record Split (p s : ℕ) (l : List Entry) : Type 0 where
  pub gone : List Entry
  pub whole : l ≡ gone ++ pick (λ r. leb s r.position) l
  pub cut : s ≡ p + length (words_of gone)
  pub before : All (λ e. leb s e.position ≡ false) gone

pub split_at : (p s : ℕ) (l : List Entry) → Laid p l → boundary s p l ≡ true → Split p s l
unfolding boundary pick
split_at p s [] h b = record { gone = []; whole = refl; cut = rw words_none (omega (arith, eqb-true s p b)); before = tt }
split_at p s (r ∷ l) h b = go (eqb s p) refl b (split_at (p + size_of r) s l h.1)
  where
    go : (t : Bool) → eqb s p ≡ t → t || boundary s (p + size_of r) l ≡ true
        → (boundary s (p + size_of r) l ≡ true → Split (p + size_of r) s l) → Split p s (r ∷ l)
    go true e x ih =
        let same : s ≡ p = eqb-true s p e in
        let all = all_map (λ r y. le-leb p r.position y) (r ∷ l) (laid_from p (r ∷ l) h) in
        record {
          gone = [];
          whole = subst (λ (z : ℕ). r ∷ l ≡ pick (λ r. leb z r.position) (r ∷ l)) (sym same) (sym (pick_whole (λ r. leb p r.position) (r ∷ l) all));
          cut = rw words_none (omega arith);
          before = tt;
        }
    go false e x ih =
        let late : p + size_of r ≤ s = boundary_from s (p + size_of r) l x in
        let two = size_ge r in
        let rest = ih x in
        let early = lt-leb s r.position (omega (arith, h.0)) in
        record {
          gone = r ∷ rest.gone;
          whole = rw early (ap (λ (m : List Entry). r ∷ m) rest.whole);
          cut = omega (arith, rest.cut, length_words r rest.gone);
          before = (early, rest.before);
        }

-- so what is kept of a disk's log is still the last of what was put there
module _ {disks : ℕ} {start home : ℕ → ℕ} {F B : List Entry} (o : Ordered disks start home F B) (start' : ℕ → ℕ) (d : ℕ)
    (h : d < disks) (edge : boundary (start' d) (start d) (on d F) ≡ true) where
  split : Split (start d) (start' d) (on d F)
  split = split_at (start d) (start' d) (on d F) (laid_append (start d) (on d F) (on d B) (o.laid d h)).0 edge

  others_gone : (t : ℕ) → All (λ e. e.number ≡ t → from_start start' e ≡ true) F → All (λ e. eqb e.number t ≡ false) split.gone
  unfolding on on_disk
  others_gone t k =
      all_zip (λ e f early. ne_eqb e.number t (λ same. true_false (f same) early)) split.gone
      (all_left _ split.gone _ (subst (All (λ e. e.number ≡ t → leb (start' d) e.position ≡ true)) split.whole here)) split.before
    where
      here : All (λ e. e.number ≡ t → leb (start' d) e.position ≡ true) (on d F)
      here = all_zip (λ e f there same. rw (eqb-true e.disk d there) at (f same)) (on d F) (all_pick _ (on_disk d) F k) (pick_all (on_disk d) F)

  pub since_later : {b was now n : ℕ} {live : ℕ → Bool} {puts : List Record}
      → ((t : ℕ) → (t < n → live t ≡ true) → All (λ e. e.number ≡ t → from_start start' e ≡ true) F)
      → Since b (start d) was n live puts (on d F ++ on d B) → start' d ≡ now → Since b (start' d) now n live puts (on d (pick (from_start start') F) ++ on d B)
  unfolding on on_disk words_of
  since_later {b} stay k same =
      let m : List Entry = pick (λ e. leb (start' d) e.position) (on d F) in
      let old = k.old in
      let gone = map record_of split.gone in
      let long = ap length (encode_append old gone) ∙ length-append (encode_all old) (encode_all gone) in
      rw (pick_swap (on_disk d) (from_start start') (λ e. leb (start' d) e.position) (λ e x. rw (eqb-true e.disk d x)) F)
      (record {
        old = old ++ gone;
        all =
            k.all ∙ ap (λ (x : List Entry). old ++ map record_of (x ++ on d B)) split.whole
            ∙ ap (λ (x : List Entry). old ++ map record_of x) (append_assoc split.gone m (on d B))
            ∙ ap (λ (x : List Record). old ++ x) (map-append record_of split.gone (m ++ on d B))
            ∙ sym (append_assoc old gone (map record_of (m ++ on d B)));
        from = omega (arith, k.from, split.cut, long);
        since = same;
        past = λ t y. updates_append t b old gone ∙ rw (updates_none t (b + length (encode_all old)) split.gone (others_gone t (stay t y)), k.past t y);
      })

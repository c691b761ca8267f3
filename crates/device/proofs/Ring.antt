-- Words stored in a ring one after the other, and what that is as a list of actions.
use mathlib.Core.Path.{◌≡◌, refl, sym, ap, ◌∙◌}
use mathlib.Core.List.{List, [], ◌∷◌, ◌++◌}
use mathlib.Core.Bool.{Bool, true, false}
use Prim.Native.Nat.{ℕ, suc, ◌+◌, ◌-◌, ◌%◌, ◌≤◌, ◌<◌}
use native.Mathlib.Omega.{arith}
use native.Mathlib.Nat.{mod-add-mod, mod-eq_of_lt, mod-lt, mod_self}
use lib.ListN.{length, take, set, length-set, length-take, length-append}
use lib.Seq.{sets, take_all, take-append-le, take-append-add}
use borrow.Author.Tests.{leb-true, leb-false, lt-leb}
use Rattle.model.specs.Word.{part}
use Rattle.model.proofs.Parts.{length_part}
use Rattle.words.proofs.Laws.{part_add}
use Rattle.model.specs.declared.Sizes.{Sizes}
use Rattle.model.specs.Sizes.{ring_of, disk_at, ring_word}
use Rattle.model.specs.World.{World, act, perform, cost, run, made, finishes, each}
use Rattle.model.specs.Append.{store_log}
use Rattle.model.proofs.Run.{stores_each, covered_each}
use Rattle.device.specs.Ran.{Ran, Stored, sets_ring, StoredRing, with_slices}
use Rattle.device.proofs.Ran.{covers}

module _ (first ring : ℕ) where
  pub length_ring : (l : List ℕ) (p : ℕ) (words : List ℕ) → length (sets_ring first ring l p words) ≡ length l
  unfolding sets_ring
  length_ring l p [] = refl
  length_ring l p (x ∷ words) = length_ring (set l (first + p % ring) x) (p + 1) words ∙ length-set l (first + p % ring) x

  -- two runs, one behind the other
  pub ring_append : (l : List ℕ) (p : ℕ) (a b : List ℕ)
      → sets_ring first ring l p (a ++ b) ≡ sets_ring first ring (sets_ring first ring l p a) (p + length a) b
  unfolding sets_ring
  ring_append l p [] b = ap (λ (q : ℕ). sets_ring first ring l q b) (omega arith)
  ring_append l p (x ∷ a) b =
      let more = set l (first + p % ring) x in
      ring_append more (p + 1) a b
      ∙ ap (λ (q : ℕ). sets_ring first ring (sets_ring first ring more (p + 1) a) q b) (omega arith)

  -- a run that ends before the ring does lies in one piece
  pub ring_run : (l : List ℕ) (p : ℕ) (words : List ℕ) → p % ring + length words ≤ ring
      → sets_ring first ring l p words ≡ sets l (first + p % ring) words
  unfolding sets_ring
  ring_run l p [] fits = refl
  ring_run l p (x ∷ []) fits = refl
  ring_run l p (x ∷ y ∷ words) fits =
      let next : (p + 1) % ring ≡ p % ring + 1 = sym (mod-add-mod p ring 1) ∙ mod-eq_of_lt (omega arith) in
      let place : first + (p % ring + 1) ≡ suc (first + p % ring) = omega arith in
      ring_run (set l (first + p % ring) x) (p + 1) (y ∷ words) (rw next (omega arith))
      ∙ rw (next, place) refl

-- Under a budget: a run in one piece, and two runs, one behind the other.
module _ (first ring : ℕ) {budget rest p : ℕ} {a before mid : List ℕ} where
  ring_piece : {whole : Bool} → p % ring + length a ≤ ring → Stored budget rest (first + p % ring) a before mid whole
      → StoredRing first ring budget rest p a before mid whole
  ring_piece fits did =
      let short : p % ring + length (take budget a) ≤ ring = rw (length-take budget a) (omega arith) in
      record { device = did.device ∙ sym (ring_run first ring before p (take budget a) short); left = did.left; finished = did.finished }

  ring_cut : (b : List ℕ) → StoredRing first ring budget rest p a before mid false → StoredRing first ring budget rest p (a ++ b) before mid false
  ring_cut b did =
      let short : budget < length a = leb-false (length a) budget (sym did.finished) in
      record {
        device = did.device ∙ ap (sets_ring first ring before p) (sym (take-append-le budget a b (omega arith)));
        left = rw (length-append a b) (omega (arith, did.left));
        finished = sym (lt-leb (length (a ++ b)) budget (rw (length-append a b) (omega arith)));
      }

  ring_then : {b after : List ℕ} {last : ℕ} {whole : Bool} → StoredRing first ring budget rest p a before mid true
      → StoredRing first ring rest last (p + length a) b mid after whole → StoredRing first ring budget last p (a ++ b) before after whole
  ring_then {b} {after} did next =
      let long : length a ≤ budget = leb-true (length a) budget (sym did.finished) in
      let spent : rest ≡ budget - length a = omega (arith, did.left) in
      let all : length a + rest ≡ budget = omega arith in
      let words : take budget (a ++ b) ≡ a ++ take rest b = rw (← all) (take-append-add a b rest) in
      let middle : mid ≡ sets_ring first ring before p a = did.device ∙ ap (sets_ring first ring before p) (take_all budget a long) in
      record {
        device = next.device ∙ rw (middle, words) (sym (ring_append first ring before p a (take rest b)));
        left = rw (length-append a b) (omega (arith, next.left));
        finished = next.finished ∙ rw (spent, covers budget (length a) (length b) long, length-append a b) refl;
      }

-- What `store_ring` stores: in one run, or in two, the second from the ring's word 0 on.
module _ (first ring tail from n : ℕ) (source : List ℕ) {budget rest : ℕ} {before mid : List ℕ} (fits : from + n ≤ length source) where
  pub one_run : {whole : Bool} → tail % ring + n ≤ ring → Stored budget rest (first + tail % ring) (part from n source) before mid whole
      → StoredRing first ring budget rest tail (part from n source) before mid whole
  one_run inside did = ring_piece first ring (rw (length_part from n source fits) inside) did

  module _ {run : ℕ} (some : 0 < ring) (is_run : run ≡ ring - tail % ring) (more : run < n)
      {whole : Bool} (did : Stored budget rest (first + tail % ring) (part from run source) before mid whole) where
    piece : StoredRing first ring budget rest tail (part from run source) before mid whole
    piece = ring_piece first ring (rw (length_part from run source (omega arith)) (omega (arith, mod-lt tail some))) did

    two : part from n source ≡ part from run source ++ part (from + run) (n - run) source
    two = let e : n ≡ run + (n - run) = omega arith in ap (λ (k : ℕ). part from k source) e ∙ part_add from run (n - run) source

    pub first_run_cut : whole ≡ false → StoredRing first ring budget rest tail (part from n source) before mid false
    first_run_cut cut = rw two (ring_cut first ring (part (from + run) (n - run) source) (rw cut at piece))

    pub two_runs : whole ≡ true → n ≤ ring → {last : ℕ} {after : List ℕ} {all : Bool}
        → Stored rest last first (part (from + run) (n - run) source) mid after all
        → StoredRing first ring budget last tail (part from n source) before after all
    two_runs done low next =
        let turn : (tail + run) % ring ≡ 0 = sym (mod-add-mod tail ring run) ∙ ap (λ (k : ℕ). k % ring) (omega (arith, mod-lt tail some)) ∙ mod_self ring in
        let long : length (part from run source) ≡ run = length_part from run source (omega arith) in
        let rest_fits : (tail + run) % ring + length (part (from + run) (n - run) source) ≤ ring = rw (turn, length_part (from + run) (n - run) source (omega arith)) (omega arith) in
        let there : first + (tail + run) % ring ≡ first = rw turn (omega arith) in
        rw two (ring_then first ring (rw done at piece) (rw long (ring_piece first ring rest_fits (rw there next))))

-- a run of words in the ring of a disk, as a list of stores
perform_ring : (s : Sizes) (disk p : ℕ) (words : List ℕ) (w : World)
    → perform (each (store_log s disk) p words) w
    ≡ with_slices w (sets_ring (disk_at s disk + 1) (ring_of s disk) w.logs p words) w.work
unfolding perform each act ring_word sets_ring
perform_ring s disk p [] w = refl
perform_ring s disk p (x ∷ words) w = perform_ring s disk (p + 1) words _

pub ring_ran : (s : Sizes) (disk : ℕ) {budget rest tail : ℕ} {words after : List ℕ} {whole : Bool} (w : World)
    → StoredRing (disk_at s disk + 1) (ring_of s disk) budget rest tail words w.logs after whole
    → Ran budget rest (each (store_log s disk) tail words) w (with_slices w after w.work) whole
unfolding run made finishes cost
ring_ran s disk {budget} {tail} {words} w did =
    record {
      world =
          rw (did.device, covered_each (store_log s disk) (λ i x. refl) budget tail words)
          (sym (perform_ring s disk tail (take budget words) w));
      left = rw (stores_each (store_log s disk) (λ i x. refl) tail words) did.left;
      finished = rw (stores_each (store_log s disk) (λ i x. refl) tail words) did.finished;
    }

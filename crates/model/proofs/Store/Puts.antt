-- Words that a format and the end of a restart put: one for each disk at a place of its own, runs of words, and the fresh memory.
use mathlib.Core.Path.{◌≡◌, refl, sym, ap, ◌∙◌}
use mathlib.Core.List.{List, [], ◌∷◌, ◌++◌, append-nil}
use mathlib.Core.Bool.{true}
use Prim.Native.Nat.{ℕ, zero, suc, ◌+◌, ◌-◌, ◌≤◌, ◌<◌}
use native.Mathlib.Omega.{arith}
use native.Mathlib.Decide.{dec_lt}
use native.Mathlib.Nat.{not-suc-le-zero}
use lib.ListN.{length, get_or, set, replicate, length-set, length-replicate, get_or-replicate}
use lib.Seq.{sets, length-sets, get_or-set_same, get_or-set_other}
use borrow.Author.Tests.{eq-eqb}
use Rattle.model.specs.declared.Sizes.{Sizes}
use Rattle.model.specs.Below.{join_below, list_below}
use Rattle.model.specs.Sizes.{total}
use Rattle.model.specs.World.{World, world_of, Device, Action, store, write, anchor, logs, work, cost, act, perform, each, stores, covered, run}
use Rattle.model.specs.Memory.{copy_at, owner_at, work_words, copy_of, owner_of, lengths_right}
use Rattle.model.specs.Format.{fresh_memory, fresh_work}
use Rattle.model.proofs.Below.{below_suc}
use Rattle.model.proofs.Run.{perform_append, perform_work, covered_append, covered_cut, covered_all}
use Rattle.model.proofs.Lengths.{Lengths}
use Rattle.model.proofs.Parts.{get_or_sets_behind, get_or_sets_inside}

-- the words of the disks below n, each set at its disk's place
unfoldable pub set_each : (ℕ → ℕ) → (ℕ → ℕ) → ℕ → List ℕ → List ℕ
set_each at word zero l = l
set_each at word (suc n) l = set (set_each at word n l) (at n) (word n)

module _ (at word : ℕ → ℕ) where
  pub length_set_each : (n : ℕ) (l : List ℕ) → length (set_each at word n l) ≡ length l
  unfolding set_each
  length_set_each zero l = refl
  length_set_each (suc n) l = simp length-set (length_set_each n l)

  -- a place of none of them keeps its word
  pub set_each_other : (n : ℕ) (l : List ℕ) (i : ℕ) → ((d : ℕ) → d < n → i ≡ at d → ⊥) → get_or (set_each at word n l) i 0 ≡ get_or l i 0
  unfolding set_each
  set_each_other zero l i apart = refl
  set_each_other (suc n) l i apart =
      get_or-set_other (set_each at word n l) (at n) i (word n) 0 (apart n (omega arith))
      ∙ set_each_other n l i (λ d h. apart d (omega arith))

  -- where no two places are the same, each of them has its word
  pub set_each_in : (n : ℕ) (l : List ℕ) → ((d o : ℕ) → (o ≡ d → ⊥) → at o ≡ at d → ⊥) → (d : ℕ) → d < n → at d < length l
      → get_or (set_each at word n l) (at d) 0 ≡ word d
  unfolding set_each
  set_each_in zero l apart d h fits = absurd (not-suc-le-zero h)
  set_each_in (suc n) l apart d h fits =
      below_suc (λ (d : ℕ). at d < length l → get_or (set (set_each at word n l) (at n) (word n)) (at d) 0 ≡ word d) n
      (λ d k fits. get_or-set_other (set_each at word n l) (at n) (at d) (word n) 0 (apart n d (λ e. omega arith))
      ∙ set_each_in n l apart d k fits)
      (λ fits. get_or-set_same (set_each at word n l) (at n) (word n) 0 (rw (length_set_each n l) fits)) d h fits

  pub perform_each_log : (n : ℕ) (w : World)
      → perform (list_below (λ d. store logs (at d) (word d)) n) w
      ≡ record { anchor = w.anchor; pages = w.pages; backups = w.backups; logs = set_each at word n w.logs; work = w.work }
  unfolding perform act list_below join_below set_each
  perform_each_log zero w = refl
  perform_each_log (suc n) w =
      perform_append (list_below (λ d. store logs (at d) (word d)) n) (store logs (at n) (word n) ∷ []) w
      ∙ ap (λ (v : World). act (store logs (at n) (word n)) v) (perform_each_log n w)

  pub perform_each_start : (n : ℕ) (w : World)
      → perform (list_below (λ d. store anchor (at d) (word d)) n) w
      ≡ record { anchor = set_each at word n w.anchor; pages = w.pages; backups = w.backups; logs = w.logs; work = w.work }
  unfolding perform act list_below join_below set_each
  perform_each_start zero w = refl
  perform_each_start (suc n) w =
      perform_append (list_below (λ d. store anchor (at d) (word d)) n) (store anchor (at n) (word n) ∷ []) w
      ∙ ap (λ (v : World). act (store anchor (at n) (word n)) v) (perform_each_start n w)

-- every lent list has its length
pub lengths_made : (s : Sizes) (w : World) → Lengths s (total s) w → lengths_right s (total s) w ≡ true
unfolding lengths_right
lengths_made s w h = rw (eq-eqb _ _ h.pages, eq-eqb _ _ h.backups, eq-eqb _ _ h.logs, eq-eqb _ _ h.work)

-- a run from the first word on
pub first_word : (l xs : List ℕ) (k : ℕ) → length xs ≤ length l → k < length xs → get_or (sets l 0 xs) k 0 ≡ get_or xs k 0
first_word l xs k fits h =
    ap (λ (j : ℕ). get_or (sets l 0 xs) j 0) (omega arith) ∙ get_or_sets_inside l 0 xs k (omega arith) h

-- a run of words all the same
pub same_word : (l : List ℕ) (i n x k : ℕ) → i + n ≤ length l → k < n → get_or (sets l i (replicate n x)) (i + k) 0 ≡ x
same_word l i n x k fits h =
    let long : length (replicate n x) ≡ n = length-replicate n x in
    get_or_sets_inside l i (replicate n x) k (omega (arith, long)) (omega (arith, long)) ∙ get_or-replicate n k x 0 h

-- the fresh memory: the owners, and before them the copy numbers
pub fresh_is : (s : Sizes) (copy : ℕ) (l : List ℕ)
    → fresh_work s copy l ≡ sets (sets l (owner_at s 0) (replicate (total s) 0)) (copy_at s 0) (replicate 64 copy)
unfolding fresh_work fresh_memory
fresh_is s copy l =
    let owners : List Action = each (write work) (owner_at s 0) (replicate (total s) 0) in
    let copies : List Action = each (write work) (copy_at s 0) (replicate 64 copy) in
    let w : World = world_of [] [] [] [] l in
    ap (λ (v : World). v.work)
    (perform_append owners copies w ∙ ap (perform copies) (perform_work (owner_at s 0) (replicate (total s) 0) w)
    ∙ perform_work (copy_at s 0) (replicate 64 copy) (world_of [] [] [] [] (sets l (owner_at s 0) (replicate (total s) 0))))

-- the copy number of every page, read from there
pub fresh_copy : (s : Sizes) (copy : ℕ) (l : List ℕ) → length l ≡ work_words s (total s) → (p : ℕ) → p < 64
    → copy_of s (fresh_work s copy l) p ≡ copy
unfolding copy_of copy_at owner_at work_words
fresh_copy s copy l long p h =
    let owners : List ℕ = replicate (total s) 0 in
    let here : copy_at s p ≡ copy_at s 0 + p = omega arith in
    rw (fresh_is s copy l) (ap (λ (i : ℕ). get_or (sets (sets l (owner_at s 0) owners) (copy_at s 0) (replicate 64 copy)) i 0) here)
    ∙ same_word (sets l (owner_at s 0) owners) (copy_at s 0) 64 copy p (omega (arith, length-sets l (owner_at s 0) owners)) h

-- no slot has an owner there
pub fresh_owner : (s : Sizes) (copy : ℕ) (l : List ℕ) → length l ≡ work_words s (total s) → (i : ℕ) → i < total s → owner_of s (fresh_work s copy l) i ≡ 0
unfolding owner_of owner_at copy_at work_words
fresh_owner s copy l long i h =
    let owners : List ℕ = replicate (total s) 0 in
    let here : owner_at s i ≡ owner_at s 0 + i = omega arith in
    ap (λ (m : List ℕ). get_or m (owner_at s i) 0) (fresh_is s copy l)
    ∙ get_or_sets_behind (sets l (owner_at s 0) owners) (copy_at s 0) (replicate 64 copy) (owner_at s i) (omega (arith, length-replicate {A = ℕ} 64 copy))
    ∙ ap (λ (j : ℕ). get_or (sets l (owner_at s 0) owners) j 0) here
    ∙ same_word l (owner_at s 0) (total s) 0 i (omega arith) h

-- a budget that does not reach past a list does not reach the store after it
pub run_before : (budget : ℕ) (l m : List Action) (device : Device) (i x : ℕ) (w : World) → budget ≤ stores l
    → run budget (l ++ store device i x ∷ m) w ≡ run budget l w
unfolding run covered cost
run_before budget l m device i x w h = ap (λ (k : List Action). perform k w) (go (dec_lt budget (stores l)))
  where
    go : Dec (budget < stores l) → covered budget (l ++ store device i x ∷ m) ≡ covered budget l
    go (yes less) = covered_cut budget l (store device i x ∷ m) less
    go (no less) =
        let none : budget - stores l ≡ 0 = omega arith in
        covered_append budget l (store device i x ∷ m) (omega arith)
        ∙ rw none (append-nil l ∙ sym (covered_all budget l (omega arith)))

-- The write sets laid over the committed words: a word that one set may change has what that set gives it.
use mathlib.Core.Path.{◌≡◌, refl, sym, ap, ap₂, subst, ◌∙◌}
use mathlib.Core.List.{List, [], ◌∷◌, map}
use mathlib.Core.Bool.{Bool, true, false, cond, not, ◌&&◌, ◌||◌}
use Prim.Native.Nat.{ℕ, ◌≤◌}
use native.Mathlib.Omega.{arith}
use lib.Dec.{eqb}
use lib.ListN.{length, get_or}
use borrow.Author.Tests.{eqb-true, eqb-false, eq-eqb, ne_eqb}
use Rattle.model.specs.declared.Sizes.{Sizes}
use Rattle.model.specs.Sizes.{width_in, slot_base}
use Rattle.model.specs.Reference.{Write, WriteSet, writes_of, laid_over, writes_slot, written_by_other, words_in, has_set}
use Rattle.model.proofs.Slots.{patch_of, Fits, Shaped, applied_shaped, words_applied}
use Rattle.model.proofs.WriteSets.{Distinct}
use Rattle.model.proofs.Ledger.Entry.{All, patch, patched, spanning}
use Rattle.model.proofs.Booleans.{true_false, or_none, or_right}
use Rattle.model.proofs.Parts.{spanning_in}

-- a write set in the list is found under its number
pub own_writes : (sets : List WriteSet) → Distinct sets
    → All (λ (x : WriteSet). (writes_of x.number sets ≡ x.writes) × (has_set x.number sets ≡ true)) sets
unfolding writes_of has_set
own_writes [] d = tt
own_writes (x ∷ xs) d =
    (((rw (eq-eqb x.number x.number refl)), (rw (eq-eqb x.number x.number refl))), later xs d.0 (own_writes xs d.1))
  where
    here : (y : WriteSet) → (x.number ≡ y.number → ⊥) → (writes_of y.number xs ≡ y.writes) × (has_set y.number xs ≡ true)
        → (writes_of y.number (x ∷ xs) ≡ y.writes) × (has_set y.number (x ∷ xs) ≡ true)
    here y ne h = (rw (ne_eqb x.number y.number ne) h.0, rw (ne_eqb x.number y.number ne) h.1)

    later : (l : List WriteSet) → has_set x.number l ≡ false
        → All (λ (y : WriteSet). (writes_of y.number xs ≡ y.writes) × (has_set y.number xs ≡ true)) l
        → All (λ (y : WriteSet). (writes_of y.number (x ∷ xs) ≡ y.writes) × (has_set y.number (x ∷ xs) ≡ true)) l
    later [] n h = tt
    later (y ∷ l) n h =
        let k = or_none (eqb y.number x.number) (has_set x.number l) n in
        (here y (λ e. true_false (eq-eqb y.number x.number (sym e)) k.0) h.0, later l k.1 h.1)

-- the write sets laid over a word, first to last
unfoldable pub fold_sets : Sizes → ℕ → List WriteSet → ℕ → ℕ
fold_sets s i [] v = v
fold_sets s i (x ∷ xs) v = fold_sets s i xs (patched i (map (patch_of s) x.writes) v)

pub laid_shaped : (s : Sizes) (sets : List WriteSet) (table : List (List ℕ)) → Shaped s table
    → All (λ (x : WriteSet). All (Fits s) x.writes) sets → Shaped s (laid_over s sets table)
unfolding laid_over
laid_shaped s [] table h f = h
laid_shaped s (x ∷ xs) table h f = laid_shaped s xs _ (applied_shaped s x.writes table h f.0) f.1

pub laid_word : (s : Sizes) (sets : List WriteSet) (table : List (List ℕ)) → Shaped s table
    → All (λ (x : WriteSet). All (Fits s) x.writes) sets → (i : ℕ)
    → get_or (words_in (laid_over s sets table)) i 0 ≡ fold_sets s i sets (get_or (words_in table) i 0)
unfolding laid_over fold_sets
laid_word s [] table h f i = refl
laid_word s (x ∷ xs) table h f i =
    laid_word s xs _ (applied_shaped s x.writes table h f.0) f.1 i
    ∙ ap (fold_sets s i xs) (words_applied s x.writes table h f.0 i)

-- where only the set of one number changes a word, all of them change it as that one does
unfoldable pub Idle : Sizes → ℕ → ℕ → WriteSet → Type 0
Idle s i o x = (x.number ≡ o → ⊥) → (v : ℕ) → patched i (map (patch_of s) x.writes) v ≡ v

pub fold_none : (s : Sizes) (i o : ℕ) (sets : List WriteSet) → has_set o sets ≡ false → All (Idle s i o) sets → (v : ℕ) → fold_sets s i sets v ≡ v
unfolding has_set fold_sets Idle
fold_none s i o [] n h v = refl
fold_none s i o (x ∷ xs) n h v =
    let k = or_none (eqb x.number o) (has_set o xs) n in
    ap (fold_sets s i xs) (h.0 (eqb-false x.number o k.0) v) ∙ fold_none s i o xs k.1 h.1 v

pub fold_one : (s : Sizes) (i o : ℕ) (sets : List WriteSet) → Distinct sets → has_set o sets ≡ true → All (Idle s i o) sets → (v : ℕ)
    → fold_sets s i sets v ≡ patched i (map (patch_of s) (writes_of o sets)) v
unfolding has_set fold_sets writes_of Idle
fold_one s i o [] d n h v = true_false n refl
fold_one s i o (x ∷ xs) d n h v = go (eqb x.number o) refl n (fold_one s i o xs d.1)
  where
    go : (b : Bool) → eqb x.number o ≡ b → (b || has_set o xs) ≡ true
        → (has_set o xs ≡ true → All (Idle s i o) xs → (u : ℕ) → fold_sets s i xs u ≡ patched i (map (patch_of s) (writes_of o xs)) u)
        → fold_sets s i xs (patched i (map (patch_of s) x.writes) v) ≡ patched i (map (patch_of s) (cond b x.writes (writes_of o xs))) v
    go true e m ih = fold_none s i o xs (subst (λ (k : ℕ). has_set k xs ≡ false) (eqb-true x.number o e) d.0) h.1 _
    go false e m ih = ih m h.1 _ ∙ ap (patched i (map (patch_of s) (writes_of o xs))) (h.0 (eqb-false x.number o e) v)

-- another's write to a slot is found, and what is found is one
pub found_other : (number page slot h : ℕ) (sets : List WriteSet) → has_set h sets ≡ true → writes_slot page slot (writes_of h sets) ≡ true → (h ≡ number → ⊥)
    → written_by_other number page slot sets ≡ true
unfolding has_set writes_of written_by_other
found_other number page slot h [] a b ne = true_false a refl
found_other number page slot h (x ∷ xs) a b ne = go (eqb x.number h) refl a b (λ a b. found_other number page slot h xs a b ne)
  where
    go : (t : Bool) → eqb x.number h ≡ t → (t || has_set h xs) ≡ true → writes_slot page slot (cond t x.writes (writes_of h xs)) ≡ true
        → (has_set h xs ≡ true → writes_slot page slot (writes_of h xs) ≡ true → written_by_other number page slot xs ≡ true)
        → ((not (eqb x.number number) && writes_slot page slot x.writes) || written_by_other number page slot xs) ≡ true
    go true e a b ih = rw (ne_eqb x.number number (λ z. ne (sym (eqb-true x.number h e) ∙ z)), b)
    go false e a b ih = or_right (not (eqb x.number number) && writes_slot page slot x.writes) (written_by_other number page slot xs) (ih a b)

pub other_found : (number page slot : ℕ) (Q : WriteSet → Type 0) (sets : List WriteSet) → All Q sets → written_by_other number page slot sets ≡ true
    → (X : Type 0) → ((x : WriteSet) → Q x → (x.number ≡ number → ⊥) → writes_slot page slot x.writes ≡ true → X) → X
unfolding written_by_other
other_found number page slot Q [] q h X k = true_false h refl
other_found number page slot Q (x ∷ xs) q h X k =
    go (eqb x.number number) (writes_slot page slot x.writes) refl refl h (λ h. other_found number page slot Q xs q.1 h X k)
  where
    go : (a b : Bool) → eqb x.number number ≡ a → writes_slot page slot x.writes ≡ b
        → ((not a && b) || written_by_other number page slot xs) ≡ true → (written_by_other number page slot xs ≡ true → X) → X
    go false true e f h ih = k x q.0 (eqb-false x.number number e) f
    go true b e f h ih = ih h
    go false false e f h ih = ih h

-- where a write set has a write to a slot, what it leaves in the slot's first word does not hang on what was there
pub patched_fixed : (s : Sizes) (page slot : ℕ) → 1 ≤ width_in s page → (ws : List Write) → All (Fits s) ws → writes_slot page slot ws ≡ true
    → (u v : ℕ) → patched (slot_base s page slot) (map (patch_of s) ws) u ≡ patched (slot_base s page slot) (map (patch_of s) ws) v
unfolding writes_slot patched patch_of patch
patched_fixed s page slot wide [] f h u v = true_false h refl
patched_fixed s page slot wide (e ∷ es) f h u v = go (eqb e.page page) (eqb e.slot slot) refl refl h (patched_fixed s page slot wide es f.1)
  where
    i : ℕ
    i = slot_base s page slot

    covers : e.page ≡ page → e.slot ≡ slot → spanning (slot_base s e.page e.slot) (length e.value) i ≡ true
    covers x y =
        let at : slot_base s e.page e.slot ≡ i = ap₂ (slot_base s) x y in
        let width : length e.value ≡ width_in s page = f.0.width ∙ ap (width_in s) x in
        spanning_in _ _ i (omega arith) (omega arith)

    go : (a b : Bool) → eqb e.page page ≡ a → eqb e.slot slot ≡ b → (a && b || writes_slot page slot es) ≡ true
        → (writes_slot page slot es ≡ true → (u v : ℕ) → patched i (map (patch_of s) es) u ≡ patched i (map (patch_of s) es) v)
        → patched i (map (patch_of s) es) (patch i (patch_of s e) u) ≡ patched i (map (patch_of s) es) (patch i (patch_of s e) v)
    go true true x y z ih = ap (patched i (map (patch_of s) es)) (rw (covers (eqb-true e.page page x) (eqb-true e.slot slot y)))
    go true false x y z ih = ih z _ _
    go false b x y z ih = ih z _ _

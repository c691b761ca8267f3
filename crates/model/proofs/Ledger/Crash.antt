-- What a restart makes of the flushed log after a cut: the page without the open transactions' records.
use mathlib.Core.Path.{◌≡◌, refl, sym, ap, ◌∙◌}
use mathlib.Core.List.{List, ◌++◌}
use mathlib.Core.Bool.{Bool, true, false, not, ◌&&◌, cond}
use Prim.Native.Nat.{ℕ}
use lib.Dec.{leb}
use Rattle.model.specs.Word.{◌⊕◌}
use Rattle.model.proofs.Ledger.Entry.{sum, mask, All, Entry, adds, closed_in, chosen}
use Rattle.model.proofs.Xor.{xor, ⊕-zero-r}
use Rattle.model.proofs.Ledger.Sums.{sum_append, sum_ext, sum_xor, sum_zero, all_of, all_zip}

-- the masks of one record: replayed = (not in the backup) ⊕ (of a transaction neither closed nor open) ⊕ (of an open one)
masks : (k n o : Bool) (x : ℕ) → (o ≡ true → k ≡ false)
    → mask (cond k n (not n)) x ≡ mask n x ⊕ (mask (not k && not o) x ⊕ mask o x)
masks true n true x h = let z : true ≡ false = h refl in cc
masks true n false x h = simp xor
masks false true true x h = simp xor
masks false true false x h = simp xor
masks false false true x h = simp xor
masks false false false x h = simp xor

regroup : (b n d l p : ℕ) → p ≡ b ⊕ n → d ≡ 0 → b ⊕ (n ⊕ (d ⊕ l)) ≡ p ⊕ l
regroup b n d l p hp hd = rw (hp, hd) (simp xor)

-- what is known when the power fails
pub record Cut (w c b pages : ℕ) (F B : List Entry) (O : ℕ → Bool) : Type 0 where
  -- the word is the backup's with the records that are not in the backup
  pub page : pages ≡ b ⊕ sum (λ r. mask (leb c r.copy) (adds w r)) (F ++ B)
  -- a buffered record is not in the backup
  pub late : All (λ r. mask (not (leb c r.copy)) (adds w r) ≡ 0) B
  -- no record of a transaction that is closed in the flushed log is buffered
  pub apart : All (λ r. closed_in F r.number ≡ false) B
  -- an open transaction is not closed
  pub open_loose : (t : ℕ) → O t ≡ true → closed_in F t ≡ false
  -- the records of the other loose transactions (aborted, and not yet flushed whole) cancel
  pub cancel : sum (λ r. mask (not (closed_in F r.number) && not (O r.number)) (adds w r)) (F ++ B) ≡ 0

pub crash : (w c b pages : ℕ) (F B : List Entry) (O : ℕ → Bool) → Cut w c b pages F B O
    → b ⊕ sum (λ r. mask (chosen (closed_in F) c r) (adds w r)) F
    ≡ pages ⊕ sum (λ r. mask (O r.number) (adds w r)) (F ++ B)
unfolding chosen
crash w c b pages F B O h =
    ap (λ (x : ℕ). b ⊕ x) (whole ∙ split)
    ∙ regroup b (sum new (F ++ B)) (sum dead (F ++ B)) (sum live (F ++ B)) pages h.page h.cancel
  where
    rep : Entry → ℕ
    rep r = mask (chosen (closed_in F) c r) (adds w r)

    new : Entry → ℕ
    new r = mask (leb c r.copy) (adds w r)

    dead : Entry → ℕ
    dead r = mask (not (closed_in F r.number) && not (O r.number)) (adds w r)

    live : Entry → ℕ
    live r = mask (O r.number) (adds w r)

    none : (r : Entry) → mask (not (leb c r.copy)) (adds w r) ≡ 0 → closed_in F r.number ≡ false → rep r ≡ 0
    none r p q = rw q p

    whole : sum rep F ≡ sum rep (F ++ B)
    whole = sym (sum_append rep F B ∙ rw (sum_zero rep B (all_zip none B h.late h.apart)) (⊕-zero-r (sum rep F)))

    each : (r : Entry) → rep r ≡ new r ⊕ (dead r ⊕ live r)
    each r = masks (closed_in F r.number) (leb c r.copy) (O r.number) (adds w r) (h.open_loose r.number)

    split : sum rep (F ++ B) ≡ sum new (F ++ B) ⊕ (sum dead (F ++ B) ⊕ sum live (F ++ B))
    split =
        sum_ext rep (λ r. new r ⊕ (dead r ⊕ live r)) (F ++ B) (all_of each (F ++ B))
        ∙ sum_xor new (λ r. dead r ⊕ live r) (F ++ B)
        ∙ ap (λ (x : ℕ). sum new (F ++ B) ⊕ x) (sum_xor dead live (F ++ B))

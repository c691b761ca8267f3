-- One entry more at the end of the log: what holds of all entries, their words, what is told of them, and their boundaries.
use mathlib.Core.Path.{◌≡◌, refl, sym, ap, subst, ◌∙◌}
use mathlib.Core.List.{List, [], ◌∷◌, ◌++◌, map, map-append, append_assoc, append-nil}
use mathlib.Core.Bool.{Bool, true, false, cond}
use Prim.Native.Nat.{ℕ, ◌<◌}
use native.Mathlib.Decide.{ℕ_discrete}
use lib.Dec.{eqb}
use borrow.Author.Tests.{eq-eqb, ne_eqb}
use Rattle.model.specs.Record.{Record}
use Rattle.model.specs.History.{Put, records_on}
use Rattle.model.proofs.Ledger.Entry.{Entry, record_of, All}
use Rattle.model.proofs.Ledger.Order.{on, boundary}
use Rattle.model.proofs.Ledger.Sums.{all_append}
use Rattle.model.proofs.Ledger.Lists.{on_more, on_less}
use Rattle.model.proofs.Ledger.Positions.{boundary_more}
use Rattle.model.proofs.Store.View.{Since}

-- all of a list with one more at the end of its second part
pub all_more : {A : Type 0} (P : A → Type 0) (F B : List A) (e : A) → All P (F ++ B) → P e → All P (F ++ (B ++ e ∷ []))
all_more P F B e h p = subst (All P) (append_assoc F B (e ∷ [])) (all_append P (F ++ B) (e ∷ []) h (p, tt))

-- what the calls put, with one record more
pub records_append : (d : ℕ) (a b : List Put) → records_on d (a ++ b) ≡ records_on d a ++ records_on d b
unfolding records_on
records_append d [] b = refl
records_append d (p ∷ a) b = go (eqb p.disk d) (records_append d a b)
  where
    go : (t : Bool) → records_on d (a ++ b) ≡ records_on d a ++ records_on d b
        → cond t (p.content ∷ records_on d (a ++ b)) (records_on d (a ++ b)) ≡ cond t (p.content ∷ records_on d a) (records_on d a) ++ records_on d b
    go true e = ap (λ (l : List Record). p.content ∷ l) e
    go false e = e

pub told_more : {b s m n : ℕ} {o : ℕ → Bool} (puts : List Put) (F B : List Entry) (e : Entry) (p : Put) → p.disk ≡ e.disk → p.content ≡ record_of e
    → (d : ℕ) → Since b s m n o (records_on d puts) (on d F ++ on d B) → Since b s m n o (records_on d (puts ++ p ∷ [])) (on d F ++ on d (B ++ e ∷ []))
unfolding records_on
told_more puts F B e p disk content d k = record { old = k.old; all = go (ℕ_discrete e.disk d); from = k.from; since = k.since; past = k.past }
  where
    go : Dec (e.disk ≡ d) → records_on d (puts ++ p ∷ []) ≡ k.old ++ map record_of (on d F ++ on d (B ++ e ∷ []))
    go (yes same) =
        rw (records_append d puts (p ∷ []), on_more d B e same, eq-eqb p.disk d (disk ∙ same), content, k.all)
        (append_assoc k.old _ (record_of e ∷ [])
        ∙ ap (λ (l : List Record). k.old ++ l) (sym (map-append record_of (on d F ++ on d B) (e ∷ [])) ∙ ap (map record_of) (append_assoc (on d F) (on d B) (e ∷ []))))
    go (no ne) =
        rw (records_append d puts (p ∷ []), on_less d B e ne, ne_eqb p.disk d (λ z. ne (sym disk ∙ z)), append-nil (records_on d puts)) k.all

-- the same start, and no transaction open or to come that was not
pub since_still : {b s u m n k : ℕ} {o live : ℕ → Bool} {puts : List Record} {l : List Entry} → u ≡ s
    → ((t : ℕ) → (t < k → live t ≡ true) → t < n → o t ≡ true) → Since b s m n o puts l → Since b u m k live puts l
since_still same fewer h = record { old = h.old; all = h.all; from = same ∙ h.from; since = same ∙ h.since; past = λ t y. h.past t (fewer t y) }

-- a boundary of a disk's log is one of the log with a record more
pub boundary_logged : (q p d : ℕ) (F B : List Entry) (e : Entry) → boundary q p (on d F ++ on d B) ≡ true
    → boundary q p (on d F ++ on d (B ++ e ∷ [])) ≡ true
boundary_logged q p d F B e h = go (ℕ_discrete e.disk d)
  where
    go : Dec (e.disk ≡ d) → boundary q p (on d F ++ on d (B ++ e ∷ [])) ≡ true
    go (yes same) =
        rw (on_more d B e same) (rw append_assoc at (boundary_more q p (on d F ++ on d B) (e ∷ []) h))
    go (no ne) = rw (on_less d B e ne) h

-- The end of a disk's log: it lies behind all that was put, no boundary lies behind it, and an entry put there has a copy number in its bounds.
use mathlib.Core.Path.{◌≡◌, refl, sym, ap, subst, ◌∙◌}
use mathlib.Core.List.{List, [], ◌∷◌, ◌++◌, map}
use mathlib.Core.Bool.{Bool, true, false, cond, ◌||◌}
use Prim.Native.Nat.{ℕ, ◌+◌, ◌≤◌, ◌<◌}
use native.Mathlib.Omega.{arith}
use lib.Dec.{ltb, eqb}
use lib.ListN.{length, get_or, length-append}
use borrow.Author.Tests.{ltb-true, le-ltb, eqb-true}
use Rattle.model.specs.declared.Core.{Core}
use Rattle.model.specs.Record.{Record, encode_all}
use Rattle.model.specs.World.{World}
use Rattle.model.specs.Memory.{copy_of}
use Rattle.model.specs.State.{kept_of, end_of}
use Rattle.model.specs.Causes.{when_open}
use Rattle.model.specs.Reference.{Reference}
use Rattle.model.specs.History.{Told, end_put}
use Rattle.model.proofs.RoundTrip.{encode_append}
use Rattle.model.proofs.Ledger.Entry.{Entry, record_of}
use Rattle.model.proofs.Ledger.Order.{size_of, words_of, on, boundary}
use Rattle.model.proofs.Ledger.Lists.{length_words}
use Rattle.model.proofs.Link.Words.{log_end}
use Rattle.model.proofs.Store.View.{Serving, before}

-- a boundary is no later than the end
pub boundary_to : (q p : ℕ) (l : List Entry) → boundary q p l ≡ true → q ≤ p + length (words_of l)
unfolding boundary
boundary_to q p [] h = omega (arith, eqb-true q p h)
boundary_to q p (r ∷ l) h = go (eqb q p) refl h (boundary_to q (p + size_of r) l)
  where
    go : (b : Bool) → eqb q p ≡ b → b || boundary q (p + size_of r) l ≡ true
        → (boundary q (p + size_of r) l ≡ true → q ≤ p + size_of r + length (words_of l)) → q ≤ p + length (words_of (r ∷ l))
    go true e x ih = omega (arith, eqb-true q p e)
    go false e x ih = omega (arith, ih x, length_words r l)

-- the end lies behind the words of all that was put there
pub end_told : {x : ℕ} {home : ℕ → ℕ} {puts : Told} {c : Core} {w : World} {r : Reference} {F B : List Entry} → Serving x home puts c w r F B
    → (d : ℕ) → d < c.sizes.disks → end_of c.logs d ≡ end_put puts d
unfolding end_put words_of
end_told {F = F} {B = B} g d below =
    let k = g.told d below in
    let l : List Record = map record_of (on d F ++ on d B) in
    let long = ap (λ (m : List Record). length (encode_all m)) k.all ∙ ap length (encode_append k.old l) ∙ length-append (encode_all k.old) (encode_all l) in
    omega (arith, log_end g.safe.link d below, k.from, long)

-- An entry at the end of its disk's log, with the copy number of its page.
module _ {x : ℕ} {home : ℕ → ℕ} {puts : Told} {c : Core} {w : World} {r : Reference} {F B : List Entry} (g : Serving x home puts c w r F B)
    (e : Entry) (page : ℕ) (page_lt : page < c.sizes.pages) (copy : e.copy ≡ copy_of c.sizes w.work page) where
  page_copy : e.copy ≡ cond (ltb page c.checkpoint.copied) (c.epoch + 1) c.epoch
  page_copy = copy ∙ g.copies.pages page page_lt

  -- the epoch is no later than the next checkpoint's
  pub capped : e.copy ≤ c.epoch + 1
  capped = subst (λ (k : ℕ). k ≤ c.epoch + 1) (sym page_copy) (go (ltb page c.checkpoint.copied))
    where
      go : (b : Bool) → cond b (c.epoch + 1) c.epoch ≤ c.epoch + 1
      go true = omega arith
      go false = omega arith

  -- and with no checkpoint under way it is this one's; a checkpoint under way began before the entry
  pub early : e.disk < c.sizes.disks → e.position ≡ end_of c.logs e.disk → before c e ≡ true → e.copy ≤ c.epoch
  unfolding before
  early below at_end h = go (when_open c.stage) refl h
    where
      none : (k : ℕ) → k ≡ 0 → cond (ltb page k) (c.epoch + 1) c.epoch ≤ c.epoch
      none k z = rw (z, le-ltb page 0 (omega arith)) (omega arith)

      go : (b : Bool) → when_open c.stage ≡ b → b || ltb e.position (get_or c.checkpoint.ends e.disk 0) ≡ true
          → e.copy ≤ c.epoch
      go true o y = subst (λ (k : ℕ). k ≤ c.epoch) (sym page_copy) (none c.checkpoint.copied (g.copies.copied o))
      go false o y =
          absurd
          (omega (
            arith,
            ltb-true e.position (get_or c.checkpoint.ends e.disk 0) y,
            log_end g.safe.link e.disk below,
            boundary_to (get_or c.checkpoint.ends e.disk 0) (kept_of c.logs e.disk) (on e.disk F ++ on e.disk B)
                (g.copies.ends o e.disk below),
          ))

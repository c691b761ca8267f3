-- What a scan has read: its records in order, how it ends, and the first malformed one.
use mathlib.Core.Path.{◌≡◌, refl}
use mathlib.Core.Logic.{◌⊎◌, inl, inr}
use mathlib.Core.List.{List, [], ◌∷◌}
use mathlib.Core.Bool.{Bool, true, false, cond}
use Prim.Native.Nat.{ℕ, zero, suc, ◌+◌, ◌-◌, ◌≤◌, ◌<◌}
use native.Mathlib.Omega.{arith}
use lib.Dec.{ltb}
use borrow.Author.Tests.{ltb-true, ltb-false}
use Rattle.model.specs.declared.Sizes.{Sizes}
use Rattle.model.specs.declared.Decoded.{Decoded}
use Rattle.model.specs.declared.Decoded.TheVariants.{Change, Close, Malformed}
use Rattle.model.specs.Record.{Record, change, close}
use Rattle.model.specs.Decode.{span, decode_at}
use Rattle.model.specs.Scan.{Scan, end, bad, item, scanned, scan_at_most, scan}
use Rattle.model.proofs.Members.{Every, every_nil, every_cons}
use Rattle.model.proofs.Decode.{decoded_all}

-- A record of a log with its position, and all of them.
pub record Item : Type 0 where
  pub position : ℕ
  pub content : Record

unfoldable pub items : Scan → List Item
items end = []
items (bad p) = []
items (item p r rest) = record { position = p; content = r } ∷ items rest

-- what comes after the records: the end, or a malformed one
unfoldable pub ending : Scan → Scan
ending end = end
ending (bad p) = bad p
ending (item p r rest) = ending rest

pub either_ending : (sc : Scan) → (ending sc ≡ end) ⊎ ((p : ℕ) × (ending sc ≡ bad p))
unfolding ending
either_ending end = inl refl
either_ending (bad p) = inr (p, refl)
either_ending (item p r rest) = either_ending rest

-- what is decoded at p is the record r, and the next one is at `next`
abbrev pub Decodes : (ℕ → ℕ) → ℕ → Decoded → Record → ℕ → Type 0
Decodes read p (Change kind page slot number copy width to) r next =
    (r ≡ change kind page slot number copy (span read (p + 3) width)) × (next ≡ to)
Decodes read p (Close kind number to) r next = (r ≡ close kind number) × (next ≡ to)
Decodes read p Malformed r next = ⊥

-- A log read from p: its records one behind the other, up to `stop` or to the first malformed one.
abbrev pub Reads : Sizes → (ℕ → ℕ) → ℕ → ℕ → Scan → Type 0
Reads s read stop p end = stop ≤ p
Reads s read stop p (bad q) = (q ≡ p) × (p < stop) × (decode_at s read stop p ≡ Malformed)
Reads s read stop p (item q r rest) =
    (q ≡ p) × (p < stop)
    × ((next : ℕ) × (p < next) × Decodes read p (decode_at s read stop p) r next × Reads s read stop next rest)

abbrev Past : ℕ → Decoded → Type 0
Past p (Change kind page slot number copy width next) = p < next
Past p (Close kind number next) = p < next
Past p Malformed = Unit {0}

past : (s : Sizes) (read : ℕ → ℕ) (stop p : ℕ) → Past p (decode_at s read stop p)
unfolding decode_at
past s read stop p =
    decoded_all (λ (d : Decoded). Past p d) s stop p (read p) (read (p + 1)) (read (p + 2)) tt (λ k f m. omega arith) (λ k l f z. omega arith)

module _ (s : Sizes) (read : ℕ → ℕ) (stop : ℕ) where
  reads_at_most : (n p : ℕ) → stop - p ≤ n → Reads s read stop p (scan_at_most s read stop n p)
  unfolding scan_at_most
  reads_at_most zero p h = omega arith
  reads_at_most (suc n) p h =
      go (ltb p stop) refl (decode_at s read stop p) refl (past s read stop p) (λ q l. reads_at_most n q (omega arith))
    where
      go : (b : Bool) → ltb p stop ≡ b → (d : Decoded) → decode_at s read stop p ≡ d → Past p d
          → ((q : ℕ) → p < q → Reads s read stop q (scan_at_most s read stop n q))
          → Reads s read stop p (cond b (scanned read p d (scan_at_most s read stop n)) end)
      go false e d ed l rest = ltb-false p stop e
      go true e (Change kind page slot number copy width next) ed l rest =
          (refl, ltb-true p stop e, (next, l, rw ed (refl, refl), rest next l))
      go true e (Close kind number next) ed l rest = (refl, ltb-true p stop e, (next, l, rw ed (refl, refl), rest next l))
      go true e Malformed ed l rest = (refl, ltb-true p stop e, ed)

  pub scan_reads : (start : ℕ) → Reads s read stop start (scan s read stop start)
  unfolding scan
  scan_reads start = reads_at_most (stop - start) start (omega arith)

-- The positions of a scan rise from m on.
abbrev pub Rises : ℕ → Scan → Type 0
Rises m end = Unit {0}
Rises m (bad p) = m ≤ p
Rises m (item p r rest) = (m ≤ p) × Rises (suc p) rest

pub rises_sooner : (m k : ℕ) (sc : Scan) → m ≤ k → Rises k sc → Rises m sc
rises_sooner m k end l h = tt
rises_sooner m k (bad p) l h = omega arith
rises_sooner m k (item p r rest) l h = (omega (arith, h.0), h.1)

rises_bad : (m p : ℕ) (sc : Scan) → Rises m sc → ending sc ≡ bad p → m ≤ p
unfolding ending
rises_bad m p end h e = let z : ◌≡◌ {A = ℕ} 0 1 = cc in absurd (omega arith)
rises_bad m p (bad q) h e = let same : q ≡ p = cc in omega arith
rises_bad m p (item q r rest) h e = omega (arith, h.0, rises_bad (suc q) p rest h.1 e)

items_before : (m p : ℕ) (sc : Scan) → Rises m sc → ending sc ≡ bad p → Every (λ i. i.position < p) (items sc)
unfolding items ending
items_before m p end h e = every_nil (λ i. i.position < p)
items_before m p (bad q) h e = every_nil (λ i. i.position < p)
items_before m p (item q r rest) h e =
    every_cons (λ i. i.position < p) (record { position = q; content = r }) (items rest) (rises_bad (suc q) p rest h.1 e)
    (items_before (suc q) p rest h.1 e)

module _ (s : Sizes) (read : ℕ → ℕ) (stop : ℕ) where
  -- the record of an item stands at its position
  pub record Stands (i : Item) : Type 0 where
    pub next : ℕ
    pub decodes : Decodes read i.position (decode_at s read stop i.position) i.content next

  reads_rises : (p : ℕ) (sc : Scan) → Reads s read stop p sc → Rises p sc
  reads_rises p end h = tt
  reads_rises p (bad q) h = omega (arith, h.0)
  reads_rises p (item q r rest) h =
      (omega (arith, h.0), rises_sooner (suc q) h.2.0 rest (omega (arith, h.0, h.2.1)) (reads_rises h.2.0 rest h.2.3))

  reads_items : (p : ℕ) (sc : Scan) → Reads s read stop p sc → Every Stands (items sc)
  unfolding items
  reads_items p end h = every_nil Stands
  reads_items p (bad q) h = every_nil Stands
  reads_items p (item q r rest) h =
      every_cons Stands (record { position = q; content = r }) (items rest)
      (record { next = h.2.0; decodes = rw h.0 h.2.2 }) (reads_items h.2.0 rest h.2.3)

  reads_before : (p : ℕ) (sc : Scan) → Reads s read stop p sc → Every (λ i. i.position < stop) (items sc)
  unfolding items
  reads_before p end h = every_nil _
  reads_before p (bad q) h = every_nil _
  reads_before p (item q r rest) h =
      every_cons (λ (i : Item). i.position < stop) (record { position = q; content = r }) (items rest) (omega (arith, h.0, h.1))
      (reads_before h.2.0 rest h.2.3)

  reads_bad : (p q : ℕ) (sc : Scan) → Reads s read stop p sc → ending sc ≡ bad q → (q < stop) × (decode_at s read stop q ≡ Malformed)
  unfolding ending
  reads_bad p q end h e = let z : ◌≡◌ {A = ℕ} 0 1 = cc in absurd (omega arith)
  reads_bad p q (bad x) h e = let same : q ≡ p = cc in rw same (h.1, h.2)
  reads_bad p q (item x r rest) h e = reads_bad h.2.0 q rest h.2.3 e

  pub scan_rises : (start : ℕ) → Rises start (scan s read stop start)
  scan_rises start = reads_rises start (scan s read stop start) (scan_reads s read stop start)

  pub scan_before : (start : ℕ) → Every (λ i. i.position < stop) (items (scan s read stop start))
  scan_before start = reads_before start (scan s read stop start) (scan_reads s read stop start)

  pub scan_items : (start : ℕ) → Every Stands (items (scan s read stop start))
  scan_items start = reads_items start (scan s read stop start) (scan_reads s read stop start)

  -- "first position there": nothing can be decoded at it, and what was read before it lies before it and decodes well
  pub record FirstBad (start p : ℕ) : Type 0 where
    pub from : start ≤ p
    pub inside : p < stop
    pub malformed : decode_at s read stop p ≡ Malformed
    pub before : Every (λ i. i.position < p) (items (scan s read stop start))
    pub well : Every Stands (items (scan s read stop start))

  pub scan_bad : (start p : ℕ) → ending (scan s read stop start) ≡ bad p → FirstBad start p
  scan_bad start p e =
      let here = reads_bad start p (scan s read stop start) (scan_reads s read stop start) e in
      record {
        from = rises_bad start p (scan s read stop start) (scan_rises start) e;
        inside = here.0;
        malformed = here.1;
        before = items_before start p (scan s read stop start) (scan_rises start) e;
        well = scan_items start;
      }

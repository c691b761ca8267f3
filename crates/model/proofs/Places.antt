-- The table of open transactions: who is in it after a begin, an update and a close.
use mathlib.Core.Path.{◌≡◌, refl, sym, ap, ◌∙◌}
use mathlib.Core.Bool.{Bool, true, false, not, ◌&&◌, ◌||◌, or-false, and-true, and-false, true≢false}
use Prim.Native.Nat.{ℕ, ◌-◌, ◌≤◌, ◌<◌}
use native.Mathlib.Omega.{arith}
use lib.Dec.{ltb, eqb}
use borrow.Author.Tests.{ltb-true, ltb-false, lt-ltb, eqb-true, eqb-false, eq-eqb, ne_eqb, not-true}
use Rattle.model.specs.declared.Table.{Table}
use Rattle.model.specs.Below.{first_below}
use Rattle.model.specs.State.{places, number_at, place_of, in_table, is_open, without, served_by, disk_at_place, reserved_at, reserved_on}
use Rattle.model.proofs.SetPlace.{SizedTable, entered, sized_put, put_number, other_same}
use Rattle.model.proofs.Below.{first_passes, first_before, first_unique, first_none, first_cong}
use Rattle.model.proofs.Booleans.{both}

-- A table as the calls make it: sixteen places, no number twice.
pub record Tabled (t : Table) : Type 0 where
  pub sized : SizedTable t
  pub distinct : (i : ℕ) → i < places → (number_at t i ≡ 0 → ⊥) → place_of t (number_at t i) ≡ i

-- a place of a number is where it stands
pub place_holds : (t : Table) (u : ℕ) → place_of t u < places → number_at t (place_of t u) ≡ u
unfolding place_of
place_holds t u h = eqb-true _ _ (first_passes (λ i. eqb (number_at t i) u) places h)

pub open_place : (t : Table) (u : ℕ) → is_open t u ≡ true → (u ≡ 0 → ⊥) × (place_of t u < places)
unfolding is_open in_table
open_place t u e =
    let h = both (not (eqb u 0)) (ltb (place_of t u) places) e in
    (eqb-false u 0 (not-true _ h.0), ltb-true _ _ h.1)

pub place_open : (t : Table) (u : ℕ) → (u ≡ 0 → ⊥) → place_of t u < places → is_open t u ≡ true
unfolding is_open in_table
place_open t u z h = rw (ne_eqb u 0 z, lt-ltb _ _ h)

pub zero_shut : (t : Table) → is_open t 0 ≡ false
unfolding is_open in_table
zero_shut t = refl

-- a number that stands at a place has a place
pub stands_open : (t : Table) (i u : ℕ) → i < places → number_at t i ≡ u → place_of t u ≤ i
unfolding place_of
stands_open t i u h e = go (ltb i (first_below test places)) refl
  where
    test : ℕ → Bool
    test j = eqb (number_at t j) u

    go : (b : Bool) → ltb i (first_below test places) ≡ b → first_below test places ≤ i
    go true l = absurd (true≢false (sym (eq-eqb _ _ e) ∙ first_before test places i (ltb-true _ _ l)))
    go false l = ltb-false _ _ l

-- two open transactions have two places
pub places_apart : (t : Table) (u n : ℕ) → is_open t u ≡ true → is_open t n ≡ true → (u ≡ n → ⊥) → place_of t u ≡ place_of t n → ⊥
places_apart t u n also opened ne e =
    ne (sym (place_holds t u (open_place t u also).1) ∙ ap (number_at t) e ∙ place_holds t n (open_place t n opened).1)

-- a place that serves a disk holds a transaction of it
pub served_is : (t : Table) (disk i : ℕ) → served_by t disk i ≡ true → (number_at t i ≡ 0 → ⊥) × (disk_at_place t i ≡ disk)
unfolding served_by
served_is t disk i e =
    let h = both (not (eqb (number_at t i) 0)) (eqb (disk_at_place t i) disk) e in
    (eqb-false _ _ (not-true _ h.0), eqb-true _ _ h.1)

pub served_here : (t : Table) (disk i : ℕ) → (number_at t i ≡ 0 → ⊥) → disk_at_place t i ≡ disk → served_by t disk i ≡ true
unfolding served_by
served_here t disk i some e = rw (ne_eqb _ _ some, eq-eqb _ _ e)

-- Place p of the table holds n, with its disk, first position and reserved words; so many words are reserved on a disk.
module _ (t : Table) (ok : Tabled t) (p n d f r disk words : ℕ) (h : p < places) where
  abbrev pub put : Table
  put = entered t p n d f r disk words

  number_there : number_at put p ≡ n
  number_there = put_number t ok.sized p n d f r disk words h

  -- a test of the numbers that p passes before and after alike
  same_test : (u : ℕ) → eqb n u ≡ eqb (number_at t p) u → (i : ℕ) → eqb (number_at put i) u ≡ eqb (number_at t i) u
  same_test u e i = go (eqb i p) refl
    where
      go : (b : Bool) → eqb i p ≡ b → eqb (number_at put i) u ≡ eqb (number_at t i) u
      go true q = rw (eqb-true i p q, number_there) e
      go false q = rw (other_same t p n d f r disk words i (eqb-false i p q)).number

  -- a number that stands at p neither before nor after has its place as before; so has one that stands there both times
  pub same_place : (u : ℕ) → eqb n u ≡ eqb (number_at t p) u → place_of put u ≡ place_of t u
  unfolding place_of
  same_place u e = first_cong _ _ places (λ i l. same_test u e i)

  pub same_open : (u : ℕ) → eqb n u ≡ eqb (number_at t p) u → is_open put u ≡ is_open t u
  unfolding is_open in_table
  same_open u e = ap (λ (k : ℕ). not (eqb u 0) && ltb k places) (same_place u e)

  -- an update: the number stays
  module _ (stays : number_at t p ≡ n) where
    stay_test : (u : ℕ) → eqb n u ≡ eqb (number_at t p) u
    stay_test u = rw stays refl

    pub update_place : (u : ℕ) → place_of put u ≡ place_of t u
    update_place u = same_place u (stay_test u)

    pub update_open : (u : ℕ) → is_open put u ≡ is_open t u
    update_open u = same_open u (stay_test u)

    same_number : (i : ℕ) → number_at put i ≡ number_at t i
    same_number i = go (eqb i p) refl
      where
        go : (b : Bool) → eqb i p ≡ b → number_at put i ≡ number_at t i
        go true q = rw (eqb-true i p q, number_there) (sym stays)
        go false q = (other_same t p n d f r disk words i (eqb-false i p q)).number

    pub update_tabled : Tabled put
    update_tabled = record {
      sized = sized_put t ok.sized p n d f r disk words h;
      distinct = λ i l z. rw (update_place, same_number i) (ok.distinct i l (λ e. z (same_number i ∙ e)));
    }

  -- a begin: a new number on a free place
  module _ (free : number_at t p ≡ 0) (some : n ≡ 0 → ⊥) (new : is_open t n ≡ false) where
    apart : (u : ℕ) → (u ≡ n → ⊥) → (u ≡ 0 → ⊥) → eqb n u ≡ eqb (number_at t p) u
    apart u ne nz = rw (free, ne_eqb n u (λ e. ne (sym e)), ne_eqb 0 u (λ e. nz (sym e)))

    nowhere : (i : ℕ) → i < places → eqb (number_at t i) n ≡ false
    nowhere i l =
        ne_eqb (number_at t i) n (λ e. true≢false (sym (place_open t n some (omega (arith, stands_open t i n l e))) ∙ new))

    pub begin_place : place_of put n ≡ p
    unfolding place_of
    begin_place =
        first_unique _ places p h (eq-eqb _ _ number_there)
        (λ j l. rw (other_same t p n d f r disk words j (λ e. omega arith)).number (nowhere j (omega arith)))

    pub begin_other : (u : ℕ) → (u ≡ n → ⊥) → (u ≡ 0 → ⊥) → place_of put u ≡ place_of t u
    begin_other u ne nz = same_place u (apart u ne nz)

    pub begin_open : (u : ℕ) → is_open put u ≡ (is_open t u || eqb u n)
    begin_open u = go (eqb u n) (eqb u 0) refl refl
      where
        go : (a b : Bool) → eqb u n ≡ a → eqb u 0 ≡ b → is_open put u ≡ (is_open t u || a)
        go true b q z = rw (eqb-true u n q, new) (place_open put n some (rw begin_place h))
        go false true q z = rw (eqb-true u 0 z, zero_shut put, zero_shut t)
        go false false q z = same_open u (apart u (eqb-false u n q) (eqb-false u 0 z)) ∙ sym (or-false (is_open t u))

    pub begin_tabled : Tabled put
    begin_tabled = record { sized = sized_put t ok.sized p n d f r disk words h; distinct = λ i l z. go i l z (eqb i p) refl }
      where
        go : (i : ℕ) → i < places → (number_at put i ≡ 0 → ⊥) → (b : Bool) → eqb i p ≡ b → place_of put (number_at put i) ≡ i
        go i l z true q = rw (eqb-true i p q, number_there) begin_place
        go i l z false q =
            let same : number_at put i ≡ number_at t i = (other_same t p n d f r disk words i (eqb-false i p q)).number in
            let nz : number_at t i ≡ 0 → ⊥ = λ e. z (same ∙ e) in
            rw same
            (begin_other (number_at t i) (λ e. true≢false (sym (eq-eqb _ _ e) ∙ nowhere i l)) nz ∙ ok.distinct i l nz)

-- a close: the number leaves its place
module _ (t : Table) (ok : Tabled t) (n : ℕ) (opened : is_open t n ≡ true) where
  abbrev disk : ℕ
  disk = disk_at_place t (place_of t n)

  -- the words reserved on its disk, without its own
  abbrev rest : ℕ
  rest = reserved_on t disk - reserved_at t (place_of t n)

  at : place_of t n < places
  at = (open_place t n opened).1

  holds : number_at t (place_of t n) ≡ n
  holds = place_holds t n at

  apart_close : (u : ℕ) → (u ≡ n → ⊥) → (u ≡ 0 → ⊥) → eqb 0 u ≡ eqb (number_at t (place_of t n)) u
  apart_close u ne nz = rw (holds, ne_eqb n u (λ e. ne (sym e)), ne_eqb 0 u (λ e. nz (sym e)))

  pub close_other : (u : ℕ) → (u ≡ n → ⊥) → (u ≡ 0 → ⊥) → place_of (without t n) u ≡ place_of t u
  unfolding without
  close_other u ne nz = same_place t ok (place_of t n) 0 0 0 0 disk rest at u (apart_close u ne nz)

  gone : (i : ℕ) → i < places → eqb (number_at (without t n) i) n ≡ false
  unfolding without
  gone i l = go (eqb i (place_of t n)) refl
    where
      go : (b : Bool) → eqb i (place_of t n) ≡ b → eqb (number_at (entered t (place_of t n) 0 0 0 0 disk rest) i) n ≡ false
      go true q = rw (eqb-true i (place_of t n) q, put_number t ok.sized (place_of t n) 0 0 0 0 disk rest at) (ne_eqb 0 n (λ e. (open_place t n opened).0 (sym e)))
      go false q =
          rw (other_same t (place_of t n) 0 0 0 0 disk rest i (eqb-false _ _ q)).number
          (ne_eqb _ _ (λ e. eqb-false _ _ q (sym (ok.distinct i l (λ z. (open_place t n opened).0 (sym e ∙ z))) ∙ ap (place_of t) e)))

  shut : is_open (without t n) n ≡ false
  unfolding is_open in_table place_of
  shut = rw (first_none (λ i. eqb (number_at (without t n) i) n) places gone) (and-false (not (eqb n 0)))

  still_open : (u : ℕ) → (u ≡ n → ⊥) → (u ≡ 0 → ⊥) → is_open (without t n) u ≡ is_open t u
  unfolding without
  still_open u ne nz = same_open t ok (place_of t n) 0 0 0 0 disk rest at u (apart_close u ne nz)

  pub close_open : (u : ℕ) → is_open (without t n) u ≡ (is_open t u && not (eqb u n))
  close_open u = go (eqb u n) (eqb u 0) refl refl
    where
      go : (a b : Bool) → eqb u n ≡ a → eqb u 0 ≡ b → is_open (without t n) u ≡ (is_open t u && not a)
      go true b q z = rw (eqb-true u n q) (shut ∙ sym (and-false (is_open t n)))
      go false true q z = rw (eqb-true u 0 z, zero_shut (without t n), zero_shut t)
      go false false q z = still_open u (eqb-false u n q) (eqb-false u 0 z) ∙ sym (and-true (is_open t u))

  pub close_tabled : Tabled (without t n)
  unfolding without
  close_tabled = record {
    sized = sized_put t ok.sized (place_of t n) 0 0 0 0 disk rest at;
    distinct = λ i l z. go i l z (eqb i (place_of t n)) refl;
  }
    where
      left : Table
      left = entered t (place_of t n) 0 0 0 0 disk rest

      go : (i : ℕ) → i < places → (number_at left i ≡ 0 → ⊥) → (b : Bool) → eqb i (place_of t n) ≡ b → place_of left (number_at left i) ≡ i
      go i l z true q = absurd (z (rw (eqb-true i (place_of t n) q) (put_number t ok.sized (place_of t n) 0 0 0 0 disk rest at)))
      go i l z false q =
          let same : number_at left i ≡ number_at t i = (other_same t (place_of t n) 0 0 0 0 disk rest i (eqb-false _ _ q)).number in
          let nz : number_at t i ≡ 0 → ⊥ = λ e. z (same ∙ e) in
          let ne : number_at t i ≡ n → ⊥ = λ e. eqb-false _ _ q (sym (ok.distinct i l nz) ∙ ap (place_of t) e) in
          rw same (same_place t ok (place_of t n) 0 0 0 0 disk rest at (number_at t i) (apart_close (number_at t i) ne nz) ∙ ok.distinct i l nz)

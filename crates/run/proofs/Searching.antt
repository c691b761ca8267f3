-- A search ahead, a record at a time: a number put behind those that were met, one marked as closed, and the search's ends.
use mathlib.Core.Path.{◌≡◌, refl, sym, ap, ◌∙◌}
use mathlib.Core.List.{List}
use mathlib.Core.Bool.{Bool, true, false}
use Prim.Native.Nat.{ℕ, ◌+◌, ◌≤◌, ◌<◌}
use native.Mathlib.Omega.{arith}
use native.Mathlib.Decide.{ℕ_discrete, dec_lt}
use lib.ListN.{length, get_or, set}
use lib.Seq.{get_or-set_same, get_or-set_other}
use Rattle.model.specs.declared.Fate.{Fate}
use Rattle.model.specs.declared.Fate.TheVariants.{Closed, Unclosed, Unreadable}
use Rattle.run.specs.Run.{fate_of, Remembers, or_ahead, Searched}

closed_so : (b : Bool) → or_ahead b Closed ≡ Closed
closed_so true = refl
closed_so false = refl

end_so : (b : Bool) {f : Fate} → Unclosed ≡ f → or_ahead b f ≡ fate_of b
end_so true e = refl
end_so false e = sym e

start_so : (b : Bool) {f : Fate} → f ≡ fate_of b → f ≡ or_ahead b f
start_so true e = e
start_so false e = refl

-- nothing is met yet
pub search_none : {fate : ℕ → Fate} {numbers : List ℕ} {closed : List Bool} {used : ℕ} (sought : ℕ) → Remembers fate numbers closed used
    → Searched fate fate sought numbers closed used used
search_none {closed} sought m =
    record {
      first = λ l. absurd (omega (arith, l));
      right = m.right;
      met = λ i l. start_so (get_or closed i false) (m.right i l);
      unmet = λ few n none. refl;
      once = m.once;
    }

module _ {fate ahead : ℕ → Fate} {sought : ℕ} {numbers : List ℕ} {closed : List Bool} {used count : ℕ}
    (m : Searched fate ahead sought numbers closed used count) where
  -- a record that changes no fate
  pub search_on : {later : ℕ → Fate} → ((n : ℕ) → later n ≡ ahead n) → Searched fate later sought numbers closed used count
  search_on same =
      record {
        first = m.first;
        right = m.right;
        met = λ i l. m.met i l ∙ ap (or_ahead (get_or closed i false)) (sym (same (get_or numbers i 0)));
        unmet = λ few n none. m.unmet few n none ∙ sym (same n);
        once = m.once;
      }

  module _ {later : ℕ → Fate} (n : ℕ) (others : (x : ℕ) → (x ≡ n → ⊥) → later x ≡ ahead x) where
    other : (i : ℕ) → i < count → (get_or numbers i 0 ≡ n → ⊥) → fate (get_or numbers i 0) ≡ or_ahead (get_or closed i false) (later (get_or numbers i 0))
    other i l ne = m.met i l ∙ ap (or_ahead (get_or closed i false)) (sym (others (get_or numbers i 0) ne))

    -- there is no room for it
    pub search_full : count ≡ 16 → ((i : ℕ) → i < count → get_or numbers i 0 ≡ n → ⊥) → Searched fate later sought numbers closed used count
    search_full full absent =
        record {
          first = m.first;
          right = m.right;
          met = λ i l. other i l (absent i l);
          unmet = λ few x none. absurd (omega (arith, few, full));
          once = m.once;
        }

    -- a number that was not met yet
    pub search_put : (b : Bool) → fate n ≡ or_ahead b (later n) → ((i : ℕ) → i < count → get_or numbers i 0 ≡ n → ⊥) → used ≤ count
        → (used ≡ count → n ≡ sought) → count < length numbers → count < length closed → count < 16
        → Searched fate later sought (set numbers count n) (set closed count b) used (count + 1)
    search_put b told absent below this long wide room =
        record {
          first = λ l. first (ℕ_discrete used count);
          right = λ i l. rw (away i (omega (arith, l, below)), away_closed i (omega (arith, l, below))) (m.right i l);
          met = λ i l. met i l (ℕ_discrete i count);
          unmet =
              λ few x none.
              m.unmet room x (λ i l e. none i (omega (arith, l)) (away i l ∙ e))
              ∙ sym (others x (λ e. none count (omega arith) (here ∙ sym e)));
          once = λ j k l r e. once j k l r e (ℕ_discrete j count) (ℕ_discrete k count);
        }
      where
        here : get_or (set numbers count n) count 0 ≡ n
        here = get_or-set_same numbers count n 0 long

        away : (i : ℕ) → i < count → get_or (set numbers count n) i 0 ≡ get_or numbers i 0
        away i l = get_or-set_other numbers count i n 0 (λ e. omega (arith, e, l))

        away_closed : (i : ℕ) → i < count → get_or (set closed count b) i false ≡ get_or closed i false
        away_closed i l = get_or-set_other closed count i b false (λ e. omega (arith, e, l))

        first : Dec (used ≡ count) → get_or (set numbers count n) used 0 ≡ sought
        first (yes e) = ap (λ (i : ℕ). get_or (set numbers count n) i 0) e ∙ here ∙ this e
        first (no ne) = away used (omega (arith, ne, below)) ∙ m.first (omega (arith, ne, below))

        met : (i : ℕ) → i < count + 1 → Dec (i ≡ count)
            → fate (get_or (set numbers count n) i 0) ≡ or_ahead (get_or (set closed count b) i false) (later (get_or (set numbers count n) i 0))
        met i l (yes e) = rw (e, here, get_or-set_same closed count b false wide) told
        met i l (no ne) =
            let low : i < count = omega (arith, l, ne) in
            rw (away i low, away_closed i low) (other i low (absent i low))

        once : (j k : ℕ) → j < count + 1 → k < count + 1 → get_or (set numbers count n) j 0 ≡ get_or (set numbers count n) k 0
            → Dec (j ≡ count) → Dec (k ≡ count) → j ≡ k
        once j k l r e (yes a) (yes c) = a ∙ sym c
        once j k l r e (yes a) (no c) =
            let low : k < count = omega (arith, r, c) in
            absurd (absent k low (sym (away k low) ∙ sym e ∙ ap (λ (i : ℕ). get_or (set numbers count n) i 0) a ∙ here))
        once j k l r e (no a) (yes c) =
            let low : j < count = omega (arith, l, a) in
            absurd (absent j low (sym (away j low) ∙ e ∙ ap (λ (i : ℕ). get_or (set numbers count n) i 0) c ∙ here))
        once j k l r e (no a) (no c) =
            let low : j < count = omega (arith, l, a) in
            let below_too : k < count = omega (arith, r, c) in
            m.once j k low below_too (sym (away j low) ∙ e ∙ away k below_too)

    -- put behind the others, or left out where there is no room
    pub search_after : (b : Bool) → (count < 16 → fate n ≡ or_ahead b (later n)) → ((i : ℕ) → i < count → get_or numbers i 0 ≡ n → ⊥)
        → used < count → count ≤ 16 → length numbers ≡ 16 → length closed ≡ 16 → {numbers_after : List ℕ} {closed_after : List Bool} {count_after : ℕ}
        → (count ≡ 16 → (numbers_after ≡ numbers) × (closed_after ≡ closed) × (count_after ≡ count))
        → (count < 16 → (numbers_after ≡ set numbers count n) × (closed_after ≡ set closed count b) × (count_after ≡ count + 1))
        → Searched fate later sought numbers_after closed_after used count_after
    search_after b told absent below room long wide {numbers_after} {closed_after} {count_after} full put = go (dec_lt count 16)
      where
        go : Dec (count < 16) → Searched fate later sought numbers_after closed_after used count_after
        go (yes l) =
            let e = put l in
            rw (e.0, e.1, e.2)
            (search_put b (told l) absent (omega (arith, below)) (λ x. absurd (omega (arith, x, below))) (omega (arith, l, long)) (omega (arith, l, wide)) l)
        go (no h) =
            let all : count ≡ 16 = omega (arith, h, room) in
            let e = full all in
            rw (e.0, e.1, e.2) (search_full all absent)

    -- a number that was met, and is closed here
    pub search_closed : {i : ℕ} → i < count → get_or numbers i 0 ≡ n → ahead n ≡ Closed → count ≤ length closed
        → Searched fate later sought numbers (set closed i true) used count
    search_closed {i} h is closes wide =
        record {
          first = m.first;
          right = λ j l. right j l (ℕ_discrete j i);
          met = λ j l. met j l (ℕ_discrete j i);
          unmet = λ few x none. m.unmet few x none ∙ sym (others x (λ e. none i h (is ∙ sym e)));
          once = m.once;
        }
      where
        here : fate (get_or numbers i 0) ≡ Closed
        here = m.met i h ∙ ap (or_ahead (get_or closed i false)) (ap ahead is ∙ closes) ∙ closed_so (get_or closed i false)

        right : (j : ℕ) → j < used → Dec (j ≡ i) → fate (get_or numbers j 0) ≡ fate_of (get_or (set closed i true) j false)
        right j l (yes e) = rw (e, get_or-set_same closed i true false (omega (arith, h, wide))) here
        right j l (no ne) = rw (get_or-set_other closed i j true false ne) (m.right j l)

        met : (j : ℕ) → j < count → Dec (j ≡ i) → fate (get_or numbers j 0) ≡ or_ahead (get_or (set closed i true) j false) (later (get_or numbers j 0))
        met j l (yes e) = rw (e, get_or-set_same closed i true false (omega (arith, h, wide))) here
        met j l (no ne) = rw (get_or-set_other closed i j true false ne) (other j l (λ e. ne (m.once j i l h (e ∙ sym is))))

  -- The ends.
  module _ (some : used < count) where
    told : fate sought ≡ or_ahead (get_or closed used false) (ahead sought)
    told = rw (m.first some) at (m.met used some)

    -- all that were met are closed
    pub search_all : ((i : ℕ) → used ≤ i → i < count → get_or closed i false ≡ true) → (Closed ≡ fate sought) × Remembers fate numbers closed count
    search_all all =
        (sym (told ∙ ap (λ (b : Bool). or_ahead b (ahead sought)) (all used (omega arith) some)), record { right = λ i l. right i l (dec_lt i used); once = m.once })
      where
        right : (i : ℕ) → i < count → Dec (i < used) → fate (get_or numbers i 0) ≡ fate_of (get_or closed i false)
        right i l (yes b) = m.right i b
        right i l (no b) =
            let e = all i (omega (arith, b)) l in
            m.met i l ∙ ap (λ (x : Bool). or_ahead x (ahead (get_or numbers i 0))) e ∙ sym (ap fate_of e)

    -- the end of the log: those that are not closed by now are not
    pub search_end : ((n : ℕ) → Unclosed ≡ ahead n) → (fate_of (get_or closed used false) ≡ fate sought) × Remembers fate numbers closed count
    search_end ended =
        (sym (told ∙ end_so (get_or closed used false) (ended sought)), record { right = λ i l. m.met i l ∙ end_so (get_or closed i false) (ended (get_or numbers i 0)); once = m.once })

    -- a malformed record
    pub search_cut : get_or closed used false ≡ true → (Closed ≡ fate sought) × Remembers fate numbers closed (used + 1)
    search_cut e =
        (sym closes, record { right = λ i l. right i l (ℕ_discrete i used); once = λ i j l r. m.once i j (omega (arith, l, some)) (omega (arith, r, some)) })
      where
        closes : fate sought ≡ Closed
        closes = told ∙ ap (λ (b : Bool). or_ahead b (ahead sought)) e

        right : (i : ℕ) → i < used + 1 → Dec (i ≡ used) → fate (get_or numbers i 0) ≡ fate_of (get_or closed i false)
        right i l (yes same) = rw (same, m.first some, e) closes
        right i l (no ne) = m.right i (omega (arith, l, ne))

    pub search_lost : {q : ℕ} → get_or closed used false ≡ false → Unreadable q ≡ ahead sought → (Unreadable q ≡ fate sought) × Remembers fate numbers closed used
    search_lost e bad =
        (bad ∙ sym (told ∙ ap (λ (b : Bool). or_ahead b (ahead sought)) e), record { right = m.right; once = λ i j l r. m.once i j (omega (arith, l, some)) (omega (arith, r, some)) })

-- the sought number is put behind those that are remembered
pub search_begun : {fate : ℕ → Fate} {numbers : List ℕ} {closed : List Bool} {used : ℕ} (sought : ℕ)
    → ((i : ℕ) → i < used → get_or numbers i 0 ≡ sought → ⊥) → Remembers fate numbers closed used → length numbers ≡ 16 → length closed ≡ 16 → used < 16
    → {numbers_after : List ℕ} {closed_after : List Bool} {first used_after : ℕ} → first ≡ used
    → (used < 16 → (numbers_after ≡ set numbers used sought) × (closed_after ≡ set closed used false) × (used_after ≡ used + 1))
    → Searched fate fate sought numbers_after closed_after first used_after
search_begun sought absent m long wide room at put =
    let e = put room in
    rw (at, e.0, e.1, e.2)
    (search_put (search_none sought m) sought (λ x ne. refl) false refl absent (omega arith) (λ e. refl) (omega (arith, room, long)) (omega (arith, room, wide)) room)

-- one more is closed
pub closed_more : (closed : List Bool) (from i : ℕ) → ((j : ℕ) → from ≤ j → j < i → get_or closed j false ≡ true) → get_or closed i false ≡ true
    → (j : ℕ) → from ≤ j → j < i + 1 → get_or closed j false ≡ true
closed_more closed from i all here j h l = go (ℕ_discrete j i)
  where
    go : Dec (j ≡ i) → get_or closed j false ≡ true
    go (yes e) = ap (λ (k : ℕ). get_or closed k false) e ∙ here
    go (no ne) = all j h (omega (arith, l, ne))

-- One byte more: what the rest of a line means after it, and before it.
use Prim.Native.Nat.{ℕ, ◌+◌, ◌*◌, ◌-◌, ◌^◌, ◌<◌, ◌≤◌}
use mathlib.Core.Path.{◌≡◌, refl, sym}
use mathlib.Core.List.{List, [], ◌∷◌, ◌++◌, append_assoc, append-nil, map}
use mathlib.Core.Logic.{◌⊎◌, inl, inr}
use mathlib.Core.Bool.{false, and-false}
use native.Mathlib.Omega.{arith}
use lib.ListN.{length, length-append}
use lib.Dec.{leb, ltb}
use borrow.Author.Tests.{lt-ltb, le-ltb, le-leb, lt-leb, ne_eqb}
use Rattle.std.specs.Prelude.{Option, None, Some, unwrap_or}
use Rattle.lines.specs.Line.{Fields, fields, with_byte, all_digits, value_from, value, all_numbers, form_of, fields_mean}
use Rattle.lines.specs.After.{after_name, after_number, value_on}
use Rattle.lines.proofs.Names.{long_name, many_numbers, cond_same}

at_byte : (b : ℕ) (more : List ℕ) → (b ≡ 32 → ⊥) → fields (b ∷ more) ≡ with_byte b (fields more)
unfolding fields
at_byte b more h = rw (ne_eqb b 32 h)

-- in the name: a byte, a byte too many, a space, and the end of the line
module _ (name : List ℕ) (b : ℕ) (more : List ℕ) (no_space : b ≡ 32 → ⊥) where
  pub name_more : (next : List ℕ) → next ≡ name ++ b ∷ [] → after_name next (fields more) ≡ after_name name (fields (b ∷ more))
  unfolding after_name
  name_more next e = rw (at_byte b more no_space, e, append_assoc)

  pub name_full : 7 ≤ length name → None ≡ after_name name (fields (b ∷ more))
  unfolding after_name fields_mean
  name_full h =
      let s = fields more in
      let l : 8 ≤ length (name ++ b ∷ s.first) = rw length-append (omega arith) in
      sym (rw (at_byte b more no_space) (simp (long_name (name ++ b ∷ s.first) (map value s.rest) l, cond_same)))

pub name_ends : (name none more : List ℕ) → none ≡ [] → after_number name none None (fields more) ≡ after_name name (fields (32 ∷ more))
unfolding fields after_number after_name fields_mean all_numbers
name_ends name none more e = rw (e, append-nil)

pub name_last : (name : List ℕ) → form_of name [] ≡ after_name name (fields [])
unfolding fields after_name fields_mean all_numbers
name_last name = rw append-nil

-- a value only grows
value_grows : (f : List ℕ) (v : ℕ) → v ≤ value_from v f
unfolding value_from
value_grows [] v = omega arith
value_grows (b ∷ f) v = omega (arith, value_grows f (v * 10 + (b - 48)))

-- in a number: a space, and the end of the line
module _ (name ended : List ℕ) where
  pub none_ends : (more : List ℕ) → None ≡ after_number name ended None (fields (32 ∷ more))
  unfolding fields after_number
  none_ends more = refl

  pub too_many : (last : Option ℕ) (s : Fields) → 4 ≤ length ended → None ≡ after_number name ended last s
  unfolding after_number
  too_many last s h =
      let vs : List ℕ = ended ++ value_on last s.first ∷ map value s.rest in
      let l : 5 ≤ length vs = rw length-append (omega arith) in
      sym (simp (many_numbers name vs l, cond_same))

  pub number_ends : (v : ℕ) (next more : List ℕ) → v < 2 ^ 64 → next ≡ ended ++ v ∷ [] →
      after_number name next None (fields more) ≡ after_number name ended (Some v) (fields (32 ∷ more))
  unfolding fields after_number all_numbers all_digits value_from
  number_ends v next more h e = rw (e, lt-ltb v (2 ^ 64) h, append_assoc)

  pub none_last : None ≡ after_number name ended None (fields [])
  unfolding fields after_number
  none_last = refl

  pub number_last : (v : ℕ) (next : List ℕ) → v < 2 ^ 64 → next ≡ ended ++ v ∷ [] → form_of name next ≡ after_number name ended (Some v) (fields [])
  unfolding fields after_number all_digits all_numbers value_from
  number_last v next h e = rw (e, lt-ltb v (2 ^ 64) h)

-- in a number: a digit, another byte, and a digit too many
module _ (name ended : List ℕ) (b : ℕ) (more : List ℕ) (no_space : b ≡ 32 → ⊥) where
  pub number_more : (last : Option ℕ) → 48 ≤ b → b ≤ 57 →
      after_number name ended (Some (unwrap_or last 0 * 10 + (b - 48))) (fields more) ≡ after_number name ended last (fields (b ∷ more))
  unfolding after_number all_digits value_from
  number_more None l h = rw (at_byte b more no_space, le-leb 48 b l, le-leb b 57 h)
  number_more (Some v) l h = rw (at_byte b more no_space, le-leb 48 b l, le-leb b 57 h)

  -- the first byte that is left is no digit
  digits_stop : (f : List ℕ) → (b < 48) ⊎ (57 < b) → all_digits (b ∷ f) ≡ false
  unfolding all_digits
  digits_stop f (inl h) = rw (lt-leb 48 b h)
  digits_stop f (inr h) = rw (lt-leb b 57 h, and-false (leb 48 b))

  pub no_digit : (last : Option ℕ) → (b < 48) ⊎ (57 < b) → None ≡ after_number name ended last (fields (b ∷ more))
  unfolding after_number
  no_digit None h = rw (at_byte b more no_space, digits_stop (fields more).first h)
  no_digit (Some v) h = rw (at_byte b more no_space, digits_stop (fields more).first h)

  grown : (v : ℕ) → 2 ^ 64 ≤ v * 10 + (b - 48) → ltb (value_from v (b ∷ (fields more).first)) (2 ^ 64) ≡ false
  unfolding value_from
  grown v h = le-ltb _ (2 ^ 64) (omega (arith, value_grows (fields more).first (v * 10 + (b - 48))))

  pub too_large : (last : Option ℕ) → 2 ^ 64 ≤ unwrap_or last 0 * 10 + (b - 48) → None ≡ after_number name ended last (fields (b ∷ more))
  unfolding after_number
  too_large None h = rw (at_byte b more no_space, grown 0 h, and-false (all_digits (b ∷ (fields more).first)))
  too_large (Some v) h = rw (at_byte b more no_space, grown v h, and-false (all_digits (b ∷ (fields more).first)))

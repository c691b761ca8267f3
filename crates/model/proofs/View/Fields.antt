-- Words of the head, one by one: the view reads them, and words put into the head are words put into lists of the state.
use mathlib.Core.Path.{◌≡◌, refl, sym, ap, ◌∙◌}
use mathlib.Core.List.{List, [], ◌∷◌, ◌++◌, map, flatten}
use mathlib.Core.Bool.{true}
use Prim.Native.Nat.{ℕ, ◌+◌, ◌<◌}
use native.Mathlib.Nat.{zero-add}
use lib.ListN.{length, get_or, take, get_or-map}
use Rattle.model.specs.declared.Core.{Core}
use Rattle.model.specs.declared.Carried.{Carried}
use Rattle.model.specs.View.{head_words, own_work, core_of, head_lists, head_of}
use Rattle.model.specs.Fields.{Field, slots, widths, bases, fills, sums, positions, page, numbers, disks, firsts, reserved, field_at, Put, put_words}
use Rattle.model.proofs.View.Laid.{sum, get_or_cut, set_in, lengths_set, set_flat}
use Rattle.model.proofs.View.Head.{head_lengths, HeadSized, own_long, own_view, lists_cut, view_sized, head_whole}

-- the lists of the head, in their order
abbrev pub order_of : Field → ℕ
order_of slots = 0
order_of widths = 1
order_of bases = 2
order_of fills = 3
order_of sums = 4
order_of positions = 5
order_of page = 6
order_of numbers = 7
order_of disks = 8
order_of firsts = 9
order_of reserved = 10

-- each begins where those before it end
field_place : (f : Field) → field_at f ≡ sum (take (order_of f) head_lengths)
field_place slots = refl
field_place widths = refl
field_place bases = refl
field_place fills = refl
field_place sums = refl
field_place positions = refl
field_place page = refl
field_place numbers = refl
field_place disks = refl
field_place firsts = refl
field_place reserved = refl

-- the length of one, and the list itself: of `numbers`, for one, 16 and c.table.numbers by computation
abbrev pub field_length : Field → ℕ
field_length f = get_or head_lengths (order_of f) 0

abbrev pub field_of : Field → Core → List ℕ
field_of f c = get_or (head_lists c) (order_of f) []

-- Each word that the view reads is the head's.
pub field_read : (h : Carried) (work : List ℕ) → own_work h work ≡ true → (f : Field) (i : ℕ) → i < field_length f
    → get_or (field_of f (core_of h work)) i 0 ≡ get_or work (field_at f + i) 0
field_read h work e f i below =
    ap (λ (c : Core). get_or (field_of f c) i 0) (own_view h work e)
    ∙ ap (λ (ls : List (List ℕ)). get_or (get_or ls (order_of f) []) i 0) (lists_cut h work (own_long h work e))
    ∙ get_or_cut 0 head_lengths work (order_of f) i below ∙ ap (λ (p : ℕ). get_or work (p + i) 0) (zero-add (sum (take (order_of f) head_lengths)) ∙ sym (field_place f))

-- The lists after words are put into them.
unfoldable pub put_lists : List Put → List (List ℕ) → List (List ℕ)
put_lists [] ls = ls
put_lists (p ∷ ps) ls = put_lists ps (set_in ls (order_of p.field) p.index p.word)

-- each lies within its list
unfoldable pub Within : List Put → Type 0
Within [] = Unit {0}
Within (p ∷ ps) = (p.index < field_length p.field) × Within ps

flat_puts : (ps : List Put) (ls : List (List ℕ)) (body : List ℕ) → map length ls ≡ head_lengths → Within ps
    → put_words ps (flatten ls ++ body) ≡ flatten (put_lists ps ls) ++ body
unfolding put_words put_lists Within
flat_puts [] ls body sized within = refl
flat_puts (p ∷ ps) ls body sized within =
    let k : ℕ = order_of p.field in
    let inside : p.index < length (get_or ls k []) = rw (← get_or-map length ls k [], sized) within.0 in
    let one = rw (sized, ← field_place p.field) at (set_flat ls body k p.index p.word inside) in
    ap (put_words ps) one
    ∙ flat_puts ps (set_in ls k p.index p.word) body (lengths_set ls k p.index p.word ∙ sized) within.1

-- The head after words are put into it, before whatever the rest of the work memory holds by then, is the head of the state with these
-- words in its lists.
pub head_put : (h : Carried) (work body : List ℕ) → own_work h work ≡ true → (ps : List Put) → Within ps → (c : Core)
    → head_lists c ≡ put_lists ps (head_lists (core_of h work)) → put_words ps (take head_words work ++ body) ≡ head_of c ++ body
unfolding head_of HeadSized
head_put h work body e ps within c lists =
    ap (λ (head : List ℕ). put_words ps (head ++ body)) (sym (head_whole h work e))
    ∙ flat_puts ps (head_lists (core_of h work)) body (view_sized h work) within
    ∙ ap (λ (ls : List (List ℕ)). flatten ls ++ body) (sym lists)

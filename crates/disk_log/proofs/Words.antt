-- Words set in a list one after the other, and the words of a record.
use mathlib.Core.Path.{◌≡◌, refl, ap, ◌∙◌}
use mathlib.Core.List.{List, [], ◌∷◌, ◌++◌, append_assoc}
use Prim.Native.Nat.{ℕ, ◌+◌, ◌≤◌}
use native.Mathlib.Omega.{arith}
use lib.ListN.{length, take, drop}
use lib.Seq.{take-length, length-take-le, take-append-add, take_at, drop_at, sets, sets-eq}
use Rattle.model.specs.Word.{part}
use Rattle.model.specs.Record.{change, close, header, encode, words_of}
use Rattle.model.proofs.RecordSizes.{words_change}
use Rattle.model.proofs.Parts.{length_part}
use Rattle.disk_log.specs.declared.write.Head.{Head}
use Rattle.disk_log.specs.Write.{Encodable, change_of}

-- all words of a list are its part from 0 on
pub put_all : (l : List ℕ) (at : ℕ) (words : List ℕ) {after : List ℕ} → after ≡ sets l at (part 0 (length words) words) → after ≡ sets l at words
unfolding part
put_all l at words e = e ∙ ap (sets l at) (take-length words)

-- words that were set are the part that they make up
pub part_set : (l : List ℕ) (at : ℕ) (words : List ℕ) → at + length words ≤ length l → part at (length words) (sets l at words) ≡ words
unfolding part
part_set l at words fits =
    rw (sets-eq words l at fits, append_assoc (take at l) words, drop_at (take at l) (words ++ drop (at + length words) l) at (length-take-le at l (omega arith)))
    (take_at words (drop (at + length words) l) (length words) refl)

-- the words of a change, asked for by its kind
pub change_size : {h : Head} {width words : ℕ} → Encodable h width → words ≡ words_of h.kind width → words ≡ 3 + width
change_size {h} {width} fits is = is ∙ words_change h.kind width (omega (arith, fits.kind_small))

-- a closing record
pub close_words : (kind number : ℕ) → kind ∷ number ∷ [] ≡ encode (close kind number)
unfolding encode header
close_words kind number = ap (λ (x : ℕ). x ∷ number ∷ []) (omega arith)

-- a change whose difference stands behind its first three words
pub change_words : (words : List ℕ) (kind page slot number copy width : ℕ) → 3 + width ≤ length words
    → take (3 + width) (sets words 0 (header kind page slot width ∷ number ∷ copy ∷ []))
    ≡ encode (change kind page slot number copy (part 3 width words))
unfolding encode part
change_words words kind page slot number copy width fits =
    let first : List ℕ = header kind page slot width ∷ number ∷ copy ∷ [] in
    let long : length (take width (drop 3 words)) ≡ width = length_part 3 width words fits in
    rw (sets-eq first words 0 (omega arith), take-append-add first (drop 3 words) width, long)

pub change_length : (kind page slot number copy : ℕ) (difference : List ℕ)
    → length (encode (change kind page slot number copy difference)) ≡ 3 + length difference
unfolding encode
change_length kind page slot number copy difference = omega arith

-- the same, with the difference put there first
pub change_put : (l words difference : List ℕ) (h : Head) → 3 + length difference ≤ length l → words ≡ sets l 3 difference
    → {after : List ℕ} → after ≡ encode (change_of h (part 3 (length difference) words)) → after ≡ encode (change_of h difference)
change_put l words difference h fits put e =
    e ∙ ap (λ (d : List ℕ). encode (change_of h d)) (rw put (part_set l 3 difference fits))

-- Lists of the head, word by word: read into narrower numbers, and laid into it.
use Rattle.std.specs.Prelude.{map}
use Rattle.std.proofs.lemmas.List.{map-append, map-id}
use native.Mathlib.Numerals.{add-one}
use mathlib.Core.Path.{◌≡◌, sym, ap, ◌∙◌}
use mathlib.Core.List.{List, [], ◌∷◌, ◌++◌}
use Prim.Native.Nat.{ℕ, ◌+◌, ◌<◌, min}
use native.Mathlib.Omega.{arith}
use lib.ListN.{length, get_or, set, take, length-map}
use lib.Seq.{sets, take-suc, length-take-le}
use Rattle.words.proofs.Laws.{sets_more}
use Rattle.head.specs.Narrow.{capped}

pub length_capped : (most : ℕ) (l : List ℕ) → length (capped most l) ≡ length l
unfolding capped
length_capped most l = length-map l (min most)

-- Numbers of any type laid into the head, the first at `at`; i is how many of them are laid.
pub laid_more : {T : Type 0} (word : T → ℕ) (out : List ℕ) (at : ℕ) (numbers : List T) (i : ℕ) (x : T) (v : ℕ)
    → i < length numbers → x ≡ get_or numbers i x → v ≡ word x
    → set (sets out at (map word (take i numbers))) (at + i) v ≡ sets out at (map word (take (i + 1) numbers))
laid_more word out at numbers i x v h here is =
    let laid = map word (take i numbers) in
    let long : length laid ≡ i = length-map (take i numbers) word ∙ length-take-le i numbers (omega arith) in
    let grown : map word (take (i + 1) numbers) ≡ laid ++ (v ∷ []) = rw (add-one, take-suc numbers i x h, ← here, is) (map-append word (take i numbers) (x ∷ [])) in
    sets_more out at laid v i long ∙ ap (sets out at) (sym grown)

-- Numbers that are words as they are.
pub laid_words : (out : List ℕ) (at : ℕ) (numbers : List ℕ) {after : List ℕ}
    → ((word : ℕ → ℕ) → ((x y : ℕ) → y ≡ x → y ≡ word x) → after ≡ sets out at (map word numbers)) → after ≡ sets out at numbers
laid_words out at numbers laid = laid (λ x. x) (λ x y same. same) ∙ ap (sets out at) (map-id numbers)

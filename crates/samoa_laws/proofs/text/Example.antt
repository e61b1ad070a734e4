-- What some texts tell.
use Rattle.std.proofs.Common.{◌≡◌, refl, true, false, [], ◌∷◌, ◌++◌, ℕ, List, codes}
use Rattle.samoa_laws.specs.text.Told.{alike, told_at}
use Rattle.samoa_laws.specs.text.Clause.{IsMute, stream_in}

-- two computations at node 1 and one at node 0, with lines of calls, another microprotocol's deliveries, and the states
abbrev text : List ℕ
text =
    codes "E 1 1 1 cast 0 7\n"
    ++ codes "C 1 1 0 repl.cast 0 7\n"
    ++ codes "D 1 repl 0 1 0 7\n"
    ++ codes "D 1 app 9\n"
    ++ codes "Y 1 1 1\n"
    ++ codes "Z 1 ok 1\n"
    ++ codes "E 2 2 0 wire 0 1 0 1 0 0 0 1 0 7\n"
    ++ codes "D 2 repl 0 1 0 7\n"
    ++ codes "Z 2 ok\n"
    ++ codes "B 3 2 1 to_seq 1\n"
    ++ codes "X 3 1 none Unbound\n"
    ++ codes "D 3 repl 1 1 2 18446744073709551615\n"
    ++ codes "Z 3 cut\n"

abbrev first : List (List ℕ)
first = codes "0" ∷ codes "1" ∷ codes "0" ∷ codes "7" ∷ []

abbrev second : List (List ℕ)
second = codes "1" ∷ codes "1" ∷ codes "2" ∷ codes "18446744073709551615" ∷ []

-- a last line that is cut is no line, though it looks whole but for its line feed
abbrev cut_off : List ℕ
cut_off = text ++ codes "E 4 3 1 wire 5\nD 4 repl 0 2 0 8"

abbrev cut_in_a_number : List ℕ
cut_in_a_number = codes "E 1 1 1 cast 0 7\nD 1 repl 0 1 0 7\nD 1 repl 0 12"

-- a delivery with no words, and a line whose name only begins so
abbrev no_words : List ℕ
no_words = codes "E 1 1 0 cast\nD 1 repl\nD 1 replica 3\n"

-- nothing is told before a computation is headed
abbrev no_head : List ℕ
no_head = codes "D 1 repl 0 1 0 7\n"

tells : (stream_in (text ++ codes "S 0 repl 0 1 1 0\nN 3 4 1\n") 1 ≡ first ∷ second ∷ []) × (stream_in text 0 ≡ first ∷ []) × (stream_in text 2 ≡ [])
    × (told_at 1 (codes "app") text ≡ (codes "9" ∷ []) ∷ []) × (stream_in cut_off 1 ≡ first ∷ second ∷ []) × (stream_in cut_in_a_number 1 ≡ first ∷ [])
    × (stream_in no_words 0 ≡ [] ∷ []) × (stream_in no_head 0 ≡ [])
tells = (refl, refl, refl, refl, refl, refl, refl, refl)

-- two that begin alike, and two that don't
likened : (alike first (codes "0" ∷ codes "1" ∷ codes "2" ∷ []) ≡ true) × (alike first second ≡ false)
likened = (refl, refl)

-- the lines of a journal tell nothing, nor does a line that is cut
journal : IsMute (codes "J 3\na 1\ne 1 6\nl 1\nD 1 repl 5")
journal = ((refl, refl), ((refl, refl), ((refl, refl), ((refl, refl), tt))))

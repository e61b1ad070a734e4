-- The compact text of a tree is one line: no byte of it is a line feed.
use Rattle.std.proofs.Common.{refl, ℕ, suc, arith, Bool, true, false, pos, negsuc, List, [], ◌∷◌, ◌++◌}
use Rattle.std.proofs.lemmas.Bool.Decides.{nat_tests}
use Rattle.json.specs.Print.{escape, escape_byte, quoted}
use Rattle.serde_json.specs.Data.{Num, unsigned, negative, float, Data, null, boolean, number, string, array, object, Items, no_items, item, Members, no_members, member}
use Rattle.serde_json.specs.Written.{number_text, comma_if, compact_text, items_text, members_text}
use Rattle.samoa_laws.proofs.text.Texts.{Lacks, decimal_lacks, lacks_append}

-- a byte that is written for another is none
byte_lacks : (x : ℕ) → Lacks 10 (escape_byte x)
unfolding escape_byte
byte_lacks x = grind (arith, nat_tests)

escape_lacks : (s : List ℕ) → Lacks 10 (escape s)
escape_lacks [] = tt
escape_lacks (x ∷ s) = lacks_append 10 (escape_byte x) (escape s) (byte_lacks x) (escape_lacks s)

quoted_lacks : (s : List ℕ) → Lacks 10 (quoted s)
quoted_lacks s = (refl, lacks_append 10 (escape s) (34 ∷ []) (escape_lacks s) (refl, tt))

number_lacks : (n : Num) → Lacks 10 (number_text n)
number_lacks (unsigned n) = decimal_lacks 10 (omega arith) n
number_lacks (negative (pos n)) = decimal_lacks 10 (omega arith) n
number_lacks (negative (negsuc n)) = (refl, decimal_lacks 10 (omega arith) (suc n))
number_lacks (float x) = tt

comma_lacks : (later : Bool) → Lacks 10 (comma_if later)
comma_lacks true = (refl, tt)
comma_lacks false = tt

mutual
  pub compact_lacks : (d : Data) → Lacks 10 (compact_text d)
  compact_lacks null = (refl, (refl, (refl, (refl, tt))))
  compact_lacks (boolean true) = (refl, (refl, (refl, (refl, tt))))
  compact_lacks (boolean false) = (refl, (refl, (refl, (refl, (refl, tt)))))
  compact_lacks (number n) = number_lacks n
  compact_lacks (string s) = quoted_lacks s
  compact_lacks (array ds) = (refl, items_lack false ds)
  compact_lacks (object ms) = (refl, members_lack false ms)

  items_lack : (later : Bool) (ds : Items) → Lacks 10 (items_text later ds)
  items_lack later no_items = (refl, tt)
  items_lack later (item d ds) =
      lacks_append 10 (comma_if later) (compact_text d ++ items_text true ds) (comma_lacks later)
      (lacks_append 10 (compact_text d) (items_text true ds) (compact_lacks d) (items_lack true ds))

  members_lack : (later : Bool) (ms : Members) → Lacks 10 (members_text later ms)
  members_lack later no_members = (refl, tt)
  members_lack later (member k d ms) =
      lacks_append 10 (comma_if later) (quoted k ++ 58 ∷ (compact_text d ++ members_text true ms)) (comma_lacks later)
      (lacks_append 10 (quoted k) (58 ∷ (compact_text d ++ members_text true ms)) (quoted_lacks k)
      (refl, lacks_append 10 (compact_text d) (members_text true ms) (compact_lacks d) (members_lack true ms)))

-- Parts of the walk: how tests pass one after another, and tests that a canonical part passes.
use Rattle.std.proofs.Common.{◌≡◌, ℕ, ◌≤◌, Bool, true, List, [], ◌∷◌, length, map, Option, Some, None, refl, ap, ap₂, ◌∙◌, arith, cond}
use Rattle.std.specs.Prelude.{◌&&◌, nat_le, nat_lt}
use Rattle.std.specs.List.{AllByRecursion, list_all}
use Rattle.std.proofs.lemmas.Bool.Decides.{nat_tests}
use Rattle.std.proofs.lemmas.List.{length-map}
use Rattle.serde_json.specs.Data.{Data, string}
use Rattle.serde_json.specs.View.{items_of}
use Rattle.samoa_model.specs.NameRule.{is_script_name}
use Rattle.samoa_grammar.specs.declared.fault.WalkFault.{WalkFault}
use Rattle.samoa_grammar.specs.declared.fault.WalkFault.TheVariants.{WrongForm, Over}
use Rattle.samoa_grammar.specs.Tree.{list_of, is_list, items_list, has_only}
use Rattle.samoa_grammar.specs.Names.{is_handler_text}
use Rattle.samoa_grammar.specs.Walks.{◌then◌, first_along}
use Rattle.samoa_grammar.specs.Tests.{object_fault, name_fault, within_fault, number_fault, number_from_fault, items_fault, list_fault}
use Rattle.samoa_grammar.proofs.Lists.{map_map}
use Rattle.samoa_print.specs.Canonical.{list_tree, number_tree}

-- ---- one test after another

pub none_then : (a b : Option WalkFault) → a ≡ None → b ≡ None → (a then b) ≡ None
none_then None b p q = q
none_then (Some f) b p q = cc

-- ---- what holds of each item

pub each_map : {X Y : Type 0} (P : Y → Type 0) (f : X → Y) (xs : List X) → AllByRecursion P (map f xs) → AllByRecursion (λ x. P (f x)) xs
each_map P f [] h = tt
each_map P f (x ∷ xs) h = (h.0, each_map P f xs h.1)

pub map_each : {X Y : Type 0} (P : Y → Type 0) (f : X → Y) (xs : List X) → AllByRecursion (λ x. P (f x)) xs → AllByRecursion P (map f xs)
map_each P f [] h = tt
map_each P f (x ∷ xs) h = (h.0, map_each P f xs h.1)

pub each_all : {X : Type 0} (P : X → Type 0) → ((x : X) → P x) → (xs : List X) → AllByRecursion P xs
each_all P all [] = tt
each_all P all (x ∷ xs) = (all x, each_all P all xs)

pub each_more : {X : Type 0} (P Q : X → Type 0) → ((x : X) → P x → Q x) → (xs : List X) → AllByRecursion P xs → AllByRecursion Q xs
each_more P Q more [] h = tt
each_more P Q more (x ∷ xs) h = (more x h.0, each_more P Q more xs h.1)

-- every item is seen by `to` as another sees it
pub map_same : {X Y : Type 0} (f g : X → Y) (xs : List X) → AllByRecursion (λ x. f x ≡ g x) xs → map f xs ≡ map g xs
map_same f g [] h = refl
map_same f g (x ∷ xs) h = ap₂ (λ y ys. y ∷ ys) h.0 (map_same f g xs h.1)

pub map_itself : {X : Type 0} (f : X → X) (xs : List X) → AllByRecursion (λ x. f x ≡ x) xs → map f xs ≡ xs
map_itself f [] h = refl
map_itself f (x ∷ xs) h = ap₂ (λ y ys. y ∷ ys) h.0 (map_itself f xs h.1)

-- ---- tests of a part that passes

abbrev pub IsNamed : List ℕ → Type 0
IsNamed t = is_script_name t ≡ true

abbrev pub IsHandlerNamed : List ℕ → Type 0
IsHandlerNamed t = is_handler_text t ≡ true

pub record IsWithin (least most found : ℕ) : Type 0 where
  pub least_passes : least ≤ found
  pub most_passes : found ≤ most

-- ---- tests that a canonical part passes

pub keys_pass : (name : List ℕ) (keys : List (List ℕ)) (d : Data) → has_only keys d ≡ true → object_fault name keys d ≡ None
keys_pass name keys d h = rw h

pub name_passes : (key t : List ℕ) → IsNamed t → name_fault key (string t) ≡ None
name_passes key t h = ap (λ b. cond b None (Some (WrongForm key))) h

pub number_again : (least most n : ℕ) (key : List ℕ) → IsWithin least most n → number_fault least most key (number_tree n) ≡ None
number_again least most n key h =
    let a = h.least_passes in let b = h.most_passes in grind (arith, nat_tests)

pub from_again : (least n : ℕ) (key : List ℕ) → least ≤ n → number_from_fault least key (number_tree n) ≡ None
from_again least n key h = grind (arith, nat_tests)

pub items_list-items_of : (ds : List Data) → items_list (items_of ds) ≡ ds
items_list-items_of [] = refl
items_list-items_of (d ∷ ds) = ap (λ xs. d ∷ xs) (items_list-items_of ds)

pub list_again : {X : Type 0} (tree : X → Data) (xs : List X) → list_of (list_tree tree xs) ≡ map tree xs
list_again tree xs = items_list-items_of (map tree xs)

all_pass : {X : Type 0} (passes : Data → Bool) (tree : X → Data) (xs : List X) → AllByRecursion (λ x. passes (tree x) ≡ true) xs → list_all passes (map tree xs) ≡ true
all_pass passes tree [] h = refl
all_pass passes tree (x ∷ xs) h = ap₂ (λ a b. a && b) h.0 (all_pass passes tree xs h.1)

few_again : (most n : ℕ) (key : List ℕ) → n ≤ most → cond (nat_lt most n) (Some (Over key most)) None ≡ None
few_again most n key h = grind (arith, nat_tests)

least_again : (least n : ℕ) → least ≤ n → nat_le least n ≡ true
least_again least n h = grind (arith, nat_tests)

within_again : (least most n : ℕ) (key : List ℕ) → least ≤ n → n ≤ most → within_fault least most n key ≡ None
within_again least most n key a b = grind (arith, nat_tests)

items_from : (least most : ℕ) (passes : Data → Bool) (key : List ℕ) (d : Data) (ds : List Data) → is_list d ≡ true → list_of d ≡ ds → list_all passes ds ≡ true → least ≤ length ds → length ds ≤ most
    → items_fault least most passes key d ≡ None
items_from least most passes key d ds list is each some few =
    let a = least_again least (length ds) some in
    let b = few_again most (length ds) key few in
    rw (list, is, each, a) b

pub items_again : {X : Type 0} (least most : ℕ) (passes : Data → Bool) (key : List ℕ) (tree : X → Data) (xs : List X)
    → AllByRecursion (λ x. passes (tree x) ≡ true) xs → least ≤ length xs → length xs ≤ most → items_fault least most passes key (list_tree tree xs) ≡ None
items_again least most passes key tree xs each some few =
    items_from least most passes key (list_tree tree xs) (map tree xs) refl (list_again tree xs) (all_pass passes tree xs each)
    (rw (length-map xs tree) some) (rw (length-map xs tree) few)

along_again : {X : Type 0} (fault : Data → Option WalkFault) (tree : X → Data) (xs : List X) → AllByRecursion (λ x. fault (tree x) ≡ None) xs → first_along fault (map tree xs) ≡ None
along_again fault tree [] h = refl
along_again fault tree (x ∷ xs) h = none_then (fault (tree x)) (first_along fault (map tree xs)) h.0 (along_again fault tree xs h.1)

objects_from : (least most : ℕ) (object : List ℕ → Data → Option WalkFault) (key : List ℕ) (d : Data) (ds : List Data) → is_list d ≡ true → list_of d ≡ ds → first_along (object key) ds ≡ None
    → least ≤ length ds → length ds ≤ most → list_fault least most object key d ≡ None
objects_from least most object key d ds list is each some few =
    let a = within_again least most (length ds) key some few in
    rw (list, is, a) each

pub objects_again : {X : Type 0} (least most : ℕ) (object : List ℕ → Data → Option WalkFault) (key : List ℕ) (tree : X → Data) (xs : List X)
    → AllByRecursion (λ x. object key (tree x) ≡ None) xs → least ≤ length xs → length xs ≤ most → list_fault least most object key (list_tree tree xs) ≡ None
objects_again least most object key tree xs each some few =
    objects_from least most object key (list_tree tree xs) (map tree xs) refl (list_again tree xs) (along_again (object key) tree xs each)
    (rw (length-map xs tree) some) (rw (length-map xs tree) few)

-- the meanings of a canonical list
pub of_again : {X Y : Type 0} (of : Data → Y) (tree : X → Data) (back : X → Y) (xs : List X) → AllByRecursion (λ x. of (tree x) ≡ back x) xs → map of (list_of (list_tree tree xs)) ≡ map back xs
of_again of tree back xs each = ap (map of) (list_again tree xs) ∙ map_map of tree xs ∙ map_same (λ x. of (tree x)) back xs each

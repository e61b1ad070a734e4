-- The play of a script and what is admitted is theirs.
use Rattle.std.proofs.Common.{arith, ◌≡◌, ◌≢◌, ℕ, zero, suc, ◌+◌, ◌≤◌, ◌<◌, ◌⊎◌, inl, inr, refl, sym, ap, ◌∙◌, List, [], ◌∷◌, ◌++◌, length, take, get_or, slice_get, Some, ◌==◌, if◌then◌else◌}
use Rattle.std.proofs.lemmas.List.{take_more}
use Rattle.samoa_model.specs.declared.record.Ext.{Ext}
use Rattle.samoa_model.specs.declared.script.Script.{Script}
use Rattle.samoa_model.specs.Scripts.{Table, caused, decl_of, first_table, root_of, table_after, table_from}
use Rattle.samoa_model.specs.Scripts as scripts
use Rattle.samoa_serial.specs.World.{Rules, attempts_of}
use Rattle.samoa_serial.specs.SerialRun.{node_step, rules_of}
use Rattle.samoa_invariant.specs.Play.{Play, rules, table_at, table_of}
use Rattle.samoa_invariant.specs.Inv.{PlaysScript}
use Rattle.samoa_invariant.specs.Runs.{ext_at, no_ext, play_of}
use Rattle.std.proofs.lemmas.Bool.{cases_eq}
use Rattle.samoa_invariant.proofs.preservation.Versions.{if_else, if_here}

pub get_is : {A : Type 0} (xs : List A) (k : ℕ) (x d : A) → slice_get xs k ≡ Some x → get_or xs k d ≡ x
get_is [] k x d e = cc
get_is (y ∷ ys) zero x d e = cc
get_is (y ∷ ys) (suc k) x d e = get_is ys k x d e

pub get_within : {A : Type 0} (xs : List A) (k : ℕ) (x : A) → slice_get xs k ≡ Some x → k < length xs
get_within [] k x e = cc
get_within (y ∷ ys) zero x e = omega arith
get_within (y ∷ ys) (suc k) x e = let ih : k < length ys = get_within ys k x e in omega arith

pub get_there : {A : Type 0} (xs : List A) (k : ℕ) (d : A) → k < length xs → slice_get xs k ≡ Some (get_or xs k d)
get_there [] k d lt = absurd (omega arith)
get_there (y ∷ ys) zero d lt = refl
get_there (y ∷ ys) (suc k) d lt = get_there ys k d (omega arith)

table_from-append : (script : Script) (node : ℕ) (table : Table) (xs : List Ext) (x : Ext)
    → table_from script node table (xs ++ x ∷ []) ≡ table_after script node (table_from script node table xs) x
table_from-append script node table [] x = refl
table_from-append script node table (y ∷ ys) x = table_from-append script node (table_after script node table y) ys x

turned_round : {A : Type 0} (a b : ℕ) (x y : A) → (if a == b then x else y) ≡ (if b == a then x else y)
turned_round {A = A} a b x y = go (cases_eq a b)
  where
    go : (a ≡ b) ⊎ (a ≢ b) → (if a == b then x else y) ≡ (if b == a then x else y)
    go (inl e) = if_here {A = A} a b x y e ∙ sym (if_here {A = A} b a x y (sym e))
    go (inr ne) = if_else {A = A} a b x y ne ∙ sym (if_else {A = A} b a x y (λ e. ne (sym e)))

-- the table of a node is that of the script after what was admitted
pub table_is : (script : Script) (cells : ℕ) (exts : List Ext) (k node : ℕ) → k ≤ length exts
    → table_at (play_of script cells exts) k node ≡ scripts.table_of script (take k exts) node
table_is script cells exts zero node le = refl
table_is script cells exts (suc k) node le =
    let P : Play = play_of script cells exts in
    let x : Ext = ext_at exts k in
    let ih : table_at P k node ≡ scripts.table_of script (take k exts) node = table_is script cells exts k node (omega arith) in
    let more : take (k + 1) exts ≡ take k exts ++ x ∷ [] = take_more exts k no_ext (omega arith) in
    let one : suc k ≡ k + 1 = omega arith in
    let next : take (suc k) exts ≡ take k exts ++ x ∷ [] = ap (λ (n : ℕ). take n exts) one ∙ more in
    ap (λ (t : Table). if node == x.node.0 then caused script x.cause t else t) ih
    ∙ (turned_round {A = Table} node x.node.0 (caused script x.cause (scripts.table_of script (take k exts) node)) (scripts.table_of script (take k exts) node)
    ∙ (sym (table_from-append script node (first_table script) (take k exts) x)
    ∙ ap (λ (ys : List Ext). scripts.table_of script ys node) (sym next)))

-- what a computation goes by is what the script says
pub rules_are : (script : Script) (cells : ℕ) (exts : List Ext) (k : ℕ) → k < length exts
    → rules (play_of script cells exts) k ≡ rules_of script (take k exts) (ext_at exts k)
rules_are script cells exts k lt =
    let P : Play = play_of script cells exts in
    let x : Ext = ext_at exts k in
    let more : take (k + 1) exts ≡ take k exts ++ x ∷ [] = take_more exts k no_ext lt in
    let one : suc k ≡ k + 1 = omega arith in
    let next : take (suc k) exts ≡ take k exts ++ x ∷ [] = ap (λ (n : ℕ). take n exts) one ∙ more in
    let table : table_of P k ≡ scripts.table_of script (take k exts ++ x ∷ []) x.node.0 =
    table_is script cells exts (suc k) x.node.0 (omega arith) ∙ ap (λ (ys : List Ext). scripts.table_of script ys x.node.0) next in
    ap (λ (t : Table). let r : Rules = record { step = node_step script x.node.0; attempt = attempts_of (decl_of script x).decl t } in r) table

pub plays : (script : Script) (cells : ℕ) (exts : List Ext) → PlaysScript (play_of script cells exts) script exts
plays script cells exts = record {
  first_states = refl;
  node = λ k x e. ap (λ (y : Ext). y.node.0) (get_is exts k x no_ext e);
  rules = λ k x e. rules_are script cells exts k (get_within exts k x e) ∙ ap (λ (y : Ext). rules_of script (take k exts) y) (get_is exts k x no_ext e);
  budget = λ k x e. ap (λ (y : Ext). (decl_of script y).budget) (get_is exts k x no_ext e);
  root = λ k x e. ap (λ (y : Ext). root_of script y.cause) (get_is exts k x no_ext e);
  args = λ k x e. ap (λ (y : Ext). y.args) (get_is exts k x no_ext e);
}

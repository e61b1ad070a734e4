-- Tables by what was bound to each event.
use Rattle.std.proofs.Common.{arith, ◌≡◌, ◌⊎◌, inl, inr, ◌<◌, ◌≤◌, ◌+◌, ◌-◌, ℕ, zero, suc, refl, sym, ap, subst, ◌∙◌, List, [], ◌∷◌, ◌++◌, length, get_or, set, take, map, replicate, Bool, true, false, Option, Some, None, leb, if◌then◌else◌}
use Rattle.std.specs.List.{All}
use Rattle.std.proofs.lemmas.Bool.{cases_lt, le-leb, lt-leb}
use Rattle.std.proofs.lemmas.List.{get_or-map, get_or_append_left, get_or_push, get_or_read, length-append, length-map, length-set, map-set}
use Rattle.std.proofs.lemmas.List.Elements.{All-more, All-weaker}
use Rattle.samoa_model.specs.declared.script.TableDef.{TableDef}
use Rattle.samoa_model.specs.Scripts.{Table, rebound}
use Rattle.samoa_bind.specs.declared.history.Binding.{Binding}
use Rattle.samoa_bind.specs.Histories.{Past, found_after, meant, meant_or, no_past, table_in, tables_to}
use Rattle.samoa_bind.specs.Kept.{HasRoom, IsBinding, IsRoomier, histories_of, tables_of}
use Rattle.samoa_bind.specs.declared.epochs.Epochs.{Epochs}
use Rattle.std.proofs.Math.Seq.{map-set_same}

found-push : (epoch : ℕ) (before : Option Binding) (h : List Binding) (b : Binding) → found_after epoch before (h ++ b ∷ []) ≡ (if leb b.epoch epoch then Some b else found_after epoch before h)
found-push epoch before [] b = refl
found-push epoch before (x ∷ h) b = found-push epoch (if leb x.epoch epoch then Some x else before) h b

-- it changes no epoch before it
pub table-before : (changes : List (List TableDef)) (epoch : ℕ) (first : Table) (hs : List (List Binding)) (i : ℕ) (b : Binding) → epoch < b.epoch
    → table_in changes epoch first (set hs i (get_or hs i [] ++ b ∷ [])) ≡ table_in changes epoch first hs
table-before changes epoch [] hs i b lt = refl
table-before changes epoch (f ∷ fs) [] i b lt = refl
table-before changes epoch (f ∷ fs) (h ∷ hs) zero b lt =
    ap (λ (x : Option Binding). meant_or changes f x ∷ table_in changes epoch fs hs)
    (found-push epoch None h b ∙ ap (λ (t : Bool). if t then Some b else found_after epoch None h) (lt-leb b.epoch epoch lt))
table-before changes epoch (f ∷ fs) (h ∷ hs) (suc i) b lt =
    ap (λ (t : Table). meant_or changes f (found_after epoch None h) ∷ t) (table-before changes epoch fs hs i b lt)

-- and from it on its row is what is bound there
pub table-bound : (changes : List (List TableDef)) (epoch : ℕ) (first : Table) (hs : List (List Binding)) (i : ℕ) (b : Binding) → b.epoch ≤ epoch → length first ≡ length hs
    → table_in changes epoch first (set hs i (get_or hs i [] ++ b ∷ [])) ≡ set (table_in changes epoch first hs) i (meant changes b)
table-bound changes epoch [] hs i b le e = refl
table-bound changes epoch (f ∷ fs) [] i b le e = absurd (omega (arith, e))
table-bound changes epoch (f ∷ fs) (h ∷ hs) zero b le e =
    ap (λ (x : Option Binding). meant_or changes f x ∷ table_in changes epoch fs hs)
    (found-push epoch None h b ∙ ap (λ (t : Bool). if t then Some b else found_after epoch None h) (le-leb b.epoch epoch le))
table-bound changes epoch (f ∷ fs) (h ∷ hs) (suc i) b le e =
    ap (λ (t : Table). meant_or changes f (found_after epoch None h) ∷ t) (table-bound changes epoch fs hs i b le (omega (arith, e)))

-- past the last binding the table stays
found-later : (changes : List (List TableDef)) (last epoch : ℕ) (before : Option Binding) (h : List Binding) → All (IsBinding changes last) h → last ≤ epoch
    → found_after epoch before h ≡ found_after last before h
found-later changes last epoch before [] all le = refl
found-later changes last epoch before (b ∷ h) all le =
    let below : b.epoch ≤ last = (all 0 b (omega arith)).epoch in
    ap (λ (t : Bool). found_after epoch (if t then Some b else before) h) (le-leb b.epoch epoch (omega (arith, below, le)))
    ∙ (found-later changes last epoch (Some b) h (λ k d lt. all (suc k) d (omega (arith, lt))) le
    ∙ ap (λ (t : Bool). found_after last (if t then Some b else before) h) (sym (le-leb b.epoch last below)))

pub table-later : (changes : List (List TableDef)) (last epoch : ℕ) (first : Table) (hs : List (List Binding)) → All (λ (h : List Binding). All (IsBinding changes last) h) hs → last ≤ epoch
    → table_in changes epoch first hs ≡ table_in changes last first hs
table-later changes last epoch [] hs all le = refl
table-later changes last epoch (f ∷ fs) [] all le = refl
table-later changes last epoch (f ∷ fs) (h ∷ hs) all le =
    ap (λ (x : Option Binding). meant_or changes f x ∷ table_in changes epoch fs hs) (found-later changes last epoch None h (all 0 h (omega arith)) le)
    ∙ ap (λ (t : Table). meant_or changes f (found_after last None h) ∷ t) (table-later changes last epoch fs hs (λ k d lt. all (suc k) d (omega (arith, lt))) le)

-- where nothing was bound it is the first one
pub table-first : (changes : List (List TableDef)) (epoch : ℕ) (first : Table) (n : ℕ) → table_in changes epoch first (replicate n []) ≡ first
table-first changes epoch [] n = refl
table-first changes epoch (f ∷ fs) zero = refl
table-first changes epoch (f ∷ fs) (suc n) = ap (λ (t : Table). f ∷ t) (table-first changes epoch fs n)

pub length-table : (changes : List (List TableDef)) (epoch : ℕ) (first : Table) (hs : List (List Binding)) → length (table_in changes epoch first hs) ≡ length first
length-table changes epoch [] hs = refl
length-table changes epoch (f ∷ fs) [] = refl
length-table changes epoch (f ∷ fs) (h ∷ hs) = ap suc (length-table changes epoch fs hs)

-- the handlers of an event
pub table-at : (changes : List (List TableDef)) (epoch : ℕ) (first : Table) (hs : List (List Binding)) (i : ℕ) → length first ≡ length hs → i < length first
    → get_or (table_in changes epoch first hs) i [] ≡ meant_or changes (get_or first i []) (found_after epoch None (get_or hs i []))
table-at changes epoch [] hs i e lt = absurd (omega (arith, lt))
table-at changes epoch (f ∷ fs) [] i e lt = absurd (omega (arith, e))
table-at changes epoch (f ∷ fs) (h ∷ hs) zero e lt = refl
table-at changes epoch (f ∷ fs) (h ∷ hs) (suc i) e lt = table-at changes epoch fs hs i (omega (arith, e)) (omega (arith, lt))

-- what is found is one of the bindings
pub found-one : (P : Binding → Type 0) (epoch : ℕ) (h : List Binding) (x : Binding) → All P h → found_after epoch None h ≡ Some x → P x
found-one P epoch h x all is = go None h (λ y e. cc) all is
  where
    go : (before : Option Binding) (h : List Binding) → ((y : Binding) → before ≡ Some y → P y) → All P h → found_after epoch before h ≡ Some x → P x
    go before [] fine all is = fine x is
    go before (b ∷ h) fine all is = go (if leb b.epoch epoch then Some b else before) h (pick (leb b.epoch epoch)) (λ k d lt. all (suc k) d (omega (arith, lt))) is
      where
        pick : (t : Bool) (y : Binding) → (if t then Some b else before) ≡ Some y → P y
        pick true y e = subst P (let same : b ≡ y = cc in same) (all 0 b (omega arith))
        pick false y e = fine y e

-- an event's history of the same bindings in the place of one
pub same-bindings : (hs : List Past) (i : ℕ) (h x : Past) → h ≡ get_or hs i h → x.bindings ≡ h.bindings → map (λ (p : Past). p.bindings) (set hs i x) ≡ map (λ (p : Past). p.bindings) hs
same-bindings hs i h x is e = map-set_same (λ (p : Past). p.bindings) hs i x h (e ∙ ap (λ (p : Past). p.bindings) is)

pub no-less-room : (hs : List Past) (i : ℕ) (h x : Past) (event : ℕ) → h ≡ get_or hs i h → h.room ≤ x.room → (get_or hs event no_past).room ≤ (get_or (set hs i x) event no_past).room
no-less-room [] i h x event is le = omega arith
no-less-room (y ∷ hs) zero h x zero is le = (let e = ap (λ (p : Past). p.room) is in omega (arith, e, le))
no-less-room (y ∷ hs) zero h x (suc event) is le = omega arith
no-less-room (y ∷ hs) (suc i) h x zero is le = omega arith
no-less-room (y ∷ hs) (suc i) h x (suc event) is le = no-less-room hs i h x event is le

-- there is room for one more row
pub room-more : (rows : List TableDef) (row : TableDef) (n i : ℕ) (hs gs : List Past) → i < length rows → row ≡ get_or rows i row
    → All (λ (r : TableDef). n ≤ (get_or hs r.event.0 no_past).room) (take i rows) → ((event : ℕ) → (get_or hs event no_past).room ≤ (get_or gs event no_past).room)
    → n ≤ (get_or gs row.event.0 no_past).room → All (λ (r : TableDef). n ≤ (get_or gs r.event.0 no_past).room) (take (i + 1) rows)
room-more rows row n i hs gs lt is has more here =
    All-more (λ (r : TableDef). n ≤ (get_or gs r.event.0 no_past).room) rows i row lt
    (All-weaker (λ (r : TableDef). n ≤ (get_or hs r.event.0 no_past).room) (λ (r : TableDef). n ≤ (get_or gs r.event.0 no_past).room)
    (λ r le. let up = more r.event.0 in omega (arith, le, up)) (take i rows) has)
    (subst (λ (r : TableDef). n ≤ (get_or gs r.event.0 no_past).room) is here)

-- one more binding in the history of an event
pub more-bindings : (hs : List Past) (i : ℕ) (h x : Past) (b : Binding) → i < length hs → h ≡ get_or hs i h → x.bindings ≡ h.bindings ++ b ∷ []
    → map (λ (p : Past). p.bindings) (set hs i x) ≡ set (map (λ (p : Past). p.bindings) hs) i (get_or (map (λ (p : Past). p.bindings) hs) i [] ++ b ∷ [])
more-bindings hs i h x b lt is e =
    map-set (λ (p : Past). p.bindings) hs i x
    ∙ ap (λ (bs : List Binding). set (map (λ (p : Past). p.bindings) hs) i bs)
    (e ∙ ap (λ (bs : List Binding). bs ++ b ∷ []) (ap (λ (p : Past). p.bindings) is ∙ sym (get_or-map (λ (p : Past). p.bindings) hs i h [] lt)))

pub one-less-room : (hs : List Past) (i : ℕ) (h x : Past) (event : ℕ) → h ≡ get_or hs i h → x.room ≡ h.room - 1 → (get_or hs event no_past).room ≤ (get_or (set hs i x) event no_past).room + 1
one-less-room [] i h x event is e = omega arith
one-less-room (y ∷ hs) zero h x zero is e = (let same = ap (λ (p : Past). p.room) is in omega (arith, e, same))
one-less-room (y ∷ hs) zero h x (suc event) is e = omega arith
one-less-room (y ∷ hs) (suc i) h x zero is e = omega arith
one-less-room (y ∷ hs) (suc i) h x (suc event) is e = one-less-room hs i h x event is e

pub roomier-than : (x y z : Epochs) → IsRoomier x y → IsRoomier y z → IsRoomier x z
roomier-than x y z a b = record {
  last = b.last ∙ a.last;
  histories = b.histories ∙ a.histories;
  room = λ event. let c = a.room event in let d = b.room event in omega (arith, c, d);
}

pub still-room : (changes : List (List TableDef)) (x y : Epochs) → IsRoomier x y → HasRoom changes x → HasRoom changes y
still-room changes x y a has k d lt j e below =
    let was = has k d lt j e below in
    let more = a.room (get_or (get_or changes k d) j e).event.0 in
    omega (arith, was, more)

pub as-many-events : (x y : Epochs) → IsRoomier x y → length y.histories.items ≡ length x.histories.items
as-many-events x y a =
    let long = ap length a.histories in
    let one = length-map y.histories.items (λ (p : Past). p.bindings) in
    let two = length-map x.histories.items (λ (p : Past). p.bindings) in
    omega (arith, long, one, two)

pub tables-roomier : (changes : List (List TableDef)) (first : Table) (x y : Epochs) → IsRoomier x y → tables_of changes first y ≡ tables_of changes first x
tables-roomier changes first x y a =
    ap (λ (hs : List (List Binding)). tables_to (λ epoch. table_in changes epoch first hs) (suc y.last)) a.histories
    ∙ ap (λ (n : ℕ). tables_to (λ epoch. table_in changes epoch first (histories_of x)) (suc n)) a.last

-- one more row
pub rebound-push : (rows : List TableDef) (row : TableDef) (table : Table) → rebound (rows ++ row ∷ []) table ≡ set (rebound rows table) row.event.0 row.handlers
rebound-push [] row table = refl
rebound-push (r ∷ rows) row table = rebound-push rows row (set table r.event.0 r.handlers)

pub length-rebound : (rows : List TableDef) (table : Table) → length (rebound rows table) ≡ length table
length-rebound [] table = refl
length-rebound (r ∷ rows) table = length-rebound rows (set table r.event.0 r.handlers) ∙ length-set table r.event.0 r.handlers

-- the tables of the first epochs
pub length-tables : (f : ℕ → Table) (n : ℕ) → length (tables_to f n) ≡ n
length-tables f zero = refl
length-tables f (suc n) =
    let long = length-append (tables_to f n) (f n ∷ []) in
    let before = length-tables f n in
    omega (arith, long, before)

pub tables-same : (f g : ℕ → Table) (n : ℕ) → ((e : ℕ) → e < n → f e ≡ g e) → tables_to f n ≡ tables_to g n
tables-same f g zero same = refl
tables-same f g (suc n) same =
    ap (λ (ts : List Table). ts ++ f n ∷ []) (tables-same f g n (λ e lt. same e (omega (arith, lt))))
    ∙ ap (λ (t : Table). tables_to g n ++ t ∷ []) (same n (omega arith))

pub tables-at : (f : ℕ → Table) (n e : ℕ) → e < n → get_or (tables_to f n) e [] ≡ f e
tables-at f zero e lt = absurd (omega (arith, lt))
tables-at f (suc n) e lt = go (tables-at f n e) (cases_lt e n)
  where
    go : (e < n → get_or (tables_to f n) e [] ≡ f e) → (e < n) ⊎ (n ≤ e) → get_or (tables_to f n ++ f n ∷ []) e [] ≡ f e
    go before (inl below) =
        let long = length-tables f n in
        get_or_append_left (tables_to f n) (f n ∷ []) [] e (omega (arith, below, long)) ∙ before below
    go before (inr le) =
        let is : n ≡ e = omega (arith, lt, le) in
        get_or_push (tables_to f n) (f n) [] e (length-tables f n ∙ is) ∙ ap f is

no_binding : Binding
no_binding = record { epoch = 0; change = record { 0 = 0 }; row = 0 }

-- where the first k bindings are no later than an epoch and the others are, the last of the k is found
abbrev at_or : Option Binding → List Binding → ℕ → Option Binding
at_or before h zero = before
at_or before h (suc k) = Some (get_or h k no_binding)

found-at : (epoch k : ℕ) (before : Option Binding) (h : List Binding) → k ≤ length h → ((i : ℕ) → i < k → (get_or h i no_binding).epoch ≤ epoch)
    → ((i : ℕ) → k ≤ i → i < length h → epoch < (get_or h i no_binding).epoch) → found_after epoch before h ≡ at_or before h k
found-at epoch zero before [] le low high = refl
found-at epoch (suc k) before [] le low high = absurd (omega (arith, le))
found-at epoch zero before (b ∷ h) le low high =
    ap (λ (t : Bool). found_after epoch (if t then Some b else before) h) (lt-leb b.epoch epoch (high 0 (omega arith) (omega arith)))
    ∙ found-at epoch zero before h (omega arith) (λ i lt. absurd (omega (arith, lt))) (λ i from lt. high (suc i) (omega arith) (omega (arith, lt)))
found-at epoch (suc k) before (b ∷ h) le low high =
    ap (λ (t : Bool). found_after epoch (if t then Some b else before) h) (le-leb b.epoch epoch (low 0 (omega arith)))
    ∙ (found-at epoch k (Some b) h (omega (arith, le)) (λ i lt. low (suc i) (omega (arith, lt))) (λ i from lt. high (suc i) (omega (arith, from)) (omega (arith, lt)))
    ∙ last k)
  where
    last : (k : ℕ) → at_or (Some b) h k ≡ Some (get_or (b ∷ h) k no_binding)
    last zero = refl
    last (suc k) = refl

pub found-none : (epoch : ℕ) (h : List Binding) → ((i : ℕ) (d : Binding) → i < length h → epoch < (get_or h i d).epoch) → None ≡ found_after epoch None h
found-none epoch h high = sym (found-at epoch zero None h (omega arith) (λ i lt. absurd (omega (arith, lt))) (λ i from lt. high i no_binding lt))

pub found-some : (epoch k : ℕ) (h : List Binding) (x : Binding) → k < length h → x ≡ get_or h k x → ((i : ℕ) (d : Binding) → i ≤ k → (get_or h i d).epoch ≤ epoch)
    → ((i : ℕ) (d : Binding) → k < i → i < length h → epoch < (get_or h i d).epoch) → Some x ≡ found_after epoch None h
found-some epoch k h x lt is low high =
    sym (found-at epoch (suc k) None h (omega (arith, lt)) (λ i below. low i no_binding (omega (arith, below))) (λ i from below. high i no_binding (omega (arith, from)) below)
    ∙ ap (λ (y : Binding). Some y) (sym (get_or_read h k x lt is no_binding)))

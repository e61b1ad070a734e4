-- What was found at the keys of an item of `do`, in members that were taken in order.
use Rattle.std.proofs.Common.{◌≡◌, ℕ, Bool, true, false, List, Option, Some, None, unwrap_or, option_map, bytes_eq, is_eq, nat_cmp, Ordering, Less, Equal, Greater, codes, refl, sym, ap, ◌∙◌, true≢false}
use Rattle.std.specs.Cmp.Lexicographic.{slice_cmp}
use Rattle.std.specs.List.{list_any}
use Rattle.std.specs.Ordering.{match_ordering}
use Rattle.serde_json.specs.Data.{Data, null, boolean, number, string, array, object, Members, no_members}
use Rattle.serde_json.specs.Find.{get, get_member, as_object}
use Rattle.samoa_grammar.specs.Tree.{has_only, known_keys}
use Rattle.samoa_form.specs.Members.{with_member, do_keys, IsDoneOf}

other : (o : Ordering) (a b : Option Data) → is_eq o ≡ false → match_ordering o a b a ≡ a
other Less a b h = refl
other Equal a b h = absurd (true≢false h)
other Greater a b h = refl

passed : (key name : List ℕ) (d : Option Data) (ms : Members) → is_eq (slice_cmp nat_cmp key name) ≡ false → get_member key (with_member name d ms) ≡ get_member key ms
passed key name None ms h = refl
passed key name (Some d) ms h = other (slice_cmp nat_cmp key name) (get_member key ms) (Some d) h

here : (key : List ℕ) (d : Option Data) (ms : Members) → slice_cmp nat_cmp key key ≡ Equal → get_member key ms ≡ None → get_member key (with_member key d ms) ≡ d
here key None ms same h = h
here key (Some d) ms same h = rw same refl

known : (keys : List (List ℕ)) (key : List ℕ) (d : Option Data) (ms : Members) → list_any (λ name. bytes_eq name key) keys ≡ true
    → known_keys keys ms ≡ true → known_keys keys (with_member key d ms) ≡ true
known keys key None ms among h = h
known keys key (Some d) ms among h = rw (among, h) refl

at_member : (key : List ℕ) (d : Data) (ms : Members) → as_object d ≡ Some ms → get_member key ms ≡ get key d
at_member key null ms h = absurd (cc)
at_member key (boolean b) ms h = absurd (cc)
at_member key (number n) ms h = absurd (cc)
at_member key (string s) ms h = absurd (cc)
at_member key (array ds) ms h = absurd (cc)
at_member key (object os) ms h = ap (λ o. get_member key (unwrap_or o no_members)) (sym h)

-- the members of an item of `do`, in order
abbrev in_order : Option Data → Option Data → Option Data → Option Data → Option Data → Members
in_order args change event node tick =
    with_member (codes "args") args (with_member (codes "change") change (with_member (codes "event") event (with_member (codes "node") node (with_member (codes "tick") tick no_members))))

pub record Found (d : Data) (a c e n t : Option Data) : Type 0 where
  pub tick : t ≡ get (codes "tick") d
  pub node : n ≡ get (codes "node") d
  pub event : e ≡ get (codes "event") d
  pub change : c ≡ get (codes "change") d
  pub args : a ≡ get (codes "args") d
  pub known : has_only do_keys d ≡ true

whole : (d : Data) (ms : Members) (args change event node tick : Option Data) → as_object d ≡ Some ms → ms ≡ in_order args change event node tick
    → Found d args change event node tick
whole d ms args change event node tick is same =
    let m4 = with_member (codes "tick") tick no_members in
    let m3 = with_member (codes "node") node m4 in
    let m2 = with_member (codes "event") event m3 in
    let m1 = with_member (codes "change") change m2 in
    let found = λ (key : List ℕ). ap (get_member key) (sym same) ∙ at_member key d ms is in
    record {
      tick = sym (passed (codes "tick") (codes "args") args m1 refl ∙ passed (codes "tick") (codes "change") change m2 refl ∙ passed (codes "tick") (codes "event") event m3 refl
          ∙ passed (codes "tick") (codes "node") node m4 refl ∙ here (codes "tick") tick no_members refl refl) ∙ found (codes "tick");
      node = sym (passed (codes "node") (codes "args") args m1 refl ∙ passed (codes "node") (codes "change") change m2 refl ∙ passed (codes "node") (codes "event") event m3 refl
          ∙ here (codes "node") node m4 refl (passed (codes "node") (codes "tick") tick no_members refl)) ∙ found (codes "node");
      event = sym (passed (codes "event") (codes "args") args m1 refl ∙ passed (codes "event") (codes "change") change m2 refl
          ∙ here (codes "event") event m3 refl (passed (codes "event") (codes "node") node m4 refl ∙ passed (codes "event") (codes "tick") tick no_members refl)) ∙ found (codes "event");
      change = sym (passed (codes "change") (codes "args") args m1 refl
          ∙ here (codes "change") change m2 refl (passed (codes "change") (codes "event") event m3 refl ∙ passed (codes "change") (codes "node") node m4 refl ∙ passed (codes "change") (codes "tick") tick no_members refl)) ∙ found (codes "change");
      args = sym (here (codes "args") args m1 refl (passed (codes "args") (codes "change") change m2 refl ∙ passed (codes "args") (codes "event") event m3 refl
          ∙ passed (codes "args") (codes "node") node m4 refl ∙ passed (codes "args") (codes "tick") tick no_members refl)) ∙ found (codes "args");
      known = ap (λ o. unwrap_or (option_map (known_keys do_keys) o) false) is ∙ ap (known_keys do_keys) same
          ∙ known do_keys (codes "args") args m1 refl (known do_keys (codes "change") change m2 refl (known do_keys (codes "event") event m3 refl
          (known do_keys (codes "node") node m4 refl (known do_keys (codes "tick") tick no_members refl refl))));
    }

none_left : (b : Bool) (ms : Members) → IsDoneOf b ms → b ≡ true → ms ≡ no_members
none_left true ms h e = h
none_left false ms h e = absurd (true≢false (sym e))

-- members that are taken at each key in turn until none is left are those of an item of `do`
pub all_taken : (d : Data) (args change event node tick : Option Data) (m0 m1 m2 m3 m4 m5 : Members) (b : Bool) → as_object d ≡ Some m0
    → m0 ≡ with_member (codes "args") args m1 → m1 ≡ with_member (codes "change") change m2 → m2 ≡ with_member (codes "event") event m3
    → m3 ≡ with_member (codes "node") node m4 → m4 ≡ with_member (codes "tick") tick m5 → IsDoneOf b m5 → b ≡ true → Found d args change event node tick
all_taken d args change event node tick m0 m1 m2 m3 m4 m5 b is e0 e1 e2 e3 e4 done e =
    whole d m0 args change event node tick is
    (e0 ∙ ap (with_member (codes "args") args) (e1 ∙ ap (with_member (codes "change") change) (e2 ∙ ap (with_member (codes "event") event)
    (e3 ∙ ap (with_member (codes "node") node) (e4 ∙ ap (with_member (codes "tick") tick) (none_left b m5 done e))))))

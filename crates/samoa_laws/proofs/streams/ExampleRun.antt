-- A group history of one node that the prover runs: a change is cast and decided, the node is rebound, and a message comes
-- through the sequencer in the second epoch. What the broadcasts owe holds of it.
use Rattle.std.proofs.Common.{◌≡◌, ◌≢◌, ◌⊎◌, ℕ, zero, suc, ◌<◌, inl, inr, refl, sym, ap, subst, ◌∙◌, append-nil, arith, List, [], ◌∷◌, ◌++◌, length, Bool, true, false, ◌==◌, ◌&&◌, if◌then◌else◌}
use Rattle.std.proofs.lemmas.Bool.Decides.{eqb_tells}
use Rattle.samoa_model.specs.declared.handler.Dest.{Dest}
use Rattle.samoa_model.specs.declared.record.Cause.{Cause}
use Rattle.samoa_model.specs.declared.record.Ext.{Ext}
use Rattle.samoa_model.specs.declared.script.Script.{Script}
use Rattle.samoa_serial.specs.SerialRun.{ran_of, serial}
use Rattle.samoa_serial.specs.Lists.{In}
use Rattle.samoa_laws.specs.trace.Trace.{HandlerStep, micro_of, trace}
use Rattle.samoa_laws.specs.trace.Group.{IsGroupHistory, IsRebinding, IsWire, change, event, group_changes, group_decls, group_events, group_micros, handler}
use Rattle.std.specs.List.{list_all}
use Rattle.std.proofs.lemmas.Bool.{eqb-true}
use Rattle.samoa_model.specs.declared.handler.Moment.{Moment}
use Rattle.samoa_model.specs.declared.handler.Outcome.{Outcome}
use Rattle.samoa_serial.specs.State.{State}
use Rattle.samoa_serial.specs.declared.message.Message.{Message}
use Rattle.samoa_laws.specs.replacement.Group.{Up, called_by}
use Rattle.samoa_laws.specs.lists.Lists.{Comparable}
use Rattle.samoa_laws.specs.lists.Messages.{first_places}
use Rattle.samoa_laws.specs.streams.Ordered.{AreSubmitted, KeepsOrder, WasSubmitted, caller, up_in, ups_at}
use Rattle.samoa_laws.specs.streams.Streams.{stream_at}
use Rattle.samoa_laws.proofs.streams.Order.{comparable}
use Rattle.samoa_laws.proofs.trace.Allowed.{allowed_at}

abbrev script : Script
script = record {
  nodes = 1;
  ticks = 9;
  micros = group_micros;
  decls = group_decls;
  events = group_events;
  changes = group_changes;
  does = [];
  losses = [];
  crashes = [];
}

abbrev at : ℕ → Cause → List ℕ → Ext
at tick cause args = record { node = record { 0 = 0 }; tick = tick; cause = cause; args = args }

abbrev wire : ℕ → List ℕ → Ext
wire tick args = at tick (Cause.Event (event 0)) args

-- the change to the sequencer protocol is cast, estimated, proposed and acknowledged; then it is decided and asked for
abbrev turn : Ext
turn = at 1 (Cause.Event (event 14)) (1 ∷ 0 ∷ [])

abbrev estimate : Ext
estimate = wire 2 (0 ∷ 2 ∷ 1 ∷ 1 ∷ 1 ∷ 0 ∷ 0 ∷ 0 ∷ 1 ∷ 1 ∷ 0 ∷ [])

abbrev proposal : Ext
proposal = wire 3 (0 ∷ 2 ∷ 2 ∷ 1 ∷ 1 ∷ 0 ∷ 0 ∷ 0 ∷ 1 ∷ 1 ∷ 0 ∷ [])

abbrev vote : Ext
vote = wire 4 (0 ∷ 2 ∷ 3 ∷ 1 ∷ 1 ∷ 0 ∷ 0 ∷ 0 ∷ 1 ∷ 1 ∷ 0 ∷ [])

-- the rebinding; then a message is cast, numbered and delivered
abbrev rebinds : Ext
rebinds = at 5 (Cause.Change (change 0)) (1 ∷ [])

abbrev cast : Ext
cast = at 7 (Cause.Event (event 14)) (0 ∷ 5 ∷ [])

abbrev asks : Ext
asks = wire 8 (0 ∷ 3 ∷ 0 ∷ 1 ∷ 0 ∷ 2 ∷ 0 ∷ 5 ∷ [])

abbrev tells : Ext
tells = wire 9 (0 ∷ 3 ∷ 1 ∷ 1 ∷ 1 ∷ 0 ∷ 2 ∷ 0 ∷ 5 ∷ [])

abbrev exts : List Ext
exts = turn ∷ estimate ∷ proposal ∷ vote ∷ rebinds ∷ cast ∷ asks ∷ tells ∷ []

delivers : stream_at script exts 0 ≡ (0 ∷ 2 ∷ 0 ∷ 5 ∷ []) ∷ []
delivers = refl

-- ---- it is a group history
estimate_sent : IsWire script (turn ∷ []) estimate
estimate_sent = record {
  cause = refl;
  sent = record {
    ran = ran_of script [] ((serial script []).states 0) turn;
    served = inl refl;
    call = 8;
    to = Dest.One (record { 0 = 0 });
    here = refl;
    entry = inr (inr (inr (inr (inr (inr (inr (inr (inr (inr (inr (inl refl)))))))))));
  };
}

proposal_sent : IsWire script (turn ∷ estimate ∷ []) proposal
proposal_sent = record {
  cause = refl;
  sent = record {
    ran = ran_of script (turn ∷ []) ((serial script (turn ∷ [])).states 0) estimate;
    served = inr (inl refl);
    call = 3;
    to = Dest.All;
    here = tt;
    entry = inr (inr (inr (inl refl)));
  };
}

vote_sent : IsWire script (turn ∷ estimate ∷ proposal ∷ []) vote
vote_sent = record {
  cause = refl;
  sent = record {
    ran = ran_of script (turn ∷ estimate ∷ []) ((serial script (turn ∷ estimate ∷ [])).states 0) proposal;
    served = inr (inr (inl refl));
    call = 3;
    to = Dest.One (record { 0 = 0 });
    here = refl;
    entry = inr (inr (inr (inl refl)));
  };
}

rebinding_asked : IsRebinding script (turn ∷ estimate ∷ proposal ∷ vote ∷ []) rebinds
rebinding_asked = record { change = change 0; cause = refl; rest = []; first = refl }

asks_sent : IsWire script (turn ∷ estimate ∷ proposal ∷ vote ∷ rebinds ∷ cast ∷ []) asks
asks_sent = record {
  cause = refl;
  sent = record {
    ran = ran_of script (turn ∷ estimate ∷ proposal ∷ vote ∷ rebinds ∷ []) ((serial script (turn ∷ estimate ∷ proposal ∷ vote ∷ rebinds ∷ [])).states 0) cast;
    served = inr (inr (inr (inr (inr (inl refl)))));
    call = 3;
    to = Dest.One (record { 0 = 0 });
    here = refl;
    entry = inr (inr (inr (inl refl)));
  };
}

tells_sent : IsWire script (turn ∷ estimate ∷ proposal ∷ vote ∷ rebinds ∷ cast ∷ asks ∷ []) tells
tells_sent = record {
  cause = refl;
  sent = record {
    ran = ran_of script (turn ∷ estimate ∷ proposal ∷ vote ∷ rebinds ∷ cast ∷ []) ((serial script (turn ∷ estimate ∷ proposal ∷ vote ∷ rebinds ∷ cast ∷ [])).states 0) asks;
    served = inr (inr (inr (inr (inr (inr (inl refl))))));
    call = 3;
    to = Dest.All;
    here = tt;
    entry = inr (inr (inr (inl refl)));
  };
}

history : IsGroupHistory script exts
history = record {
  group = record { micros = refl; decls = refl; events = refl; changes = refl; does = tt };
  few = omega arith;
  known = (
    record { node = omega arith; cause = omega arith },
    (
      record { node = omega arith; cause = omega arith },
      (
        record { node = omega arith; cause = omega arith },
        (
          record { node = omega arith; cause = omega arith },
          (
            record { node = omega arith; cause = omega arith },
            (
              record { node = omega arith; cause = omega arith },
              (record { node = omega arith; cause = omega arith }, (record { node = omega arith; cause = omega arith }, tt)),
            ),
          ),
        ),
      ),
    ),
  );
  allowed = allowed_at script [] exts (
    inl (inl refl),
    (
      inr (inl estimate_sent),
      (
        inr (inl proposal_sent),
        (
          inr (inl vote_sent),
          (inr (inr rebinding_asked), (inl (inl refl), (inr (inl asks_sent), (inr (inl tells_sent), tt)))),
        ),
      ),
    ),
  );
}

-- ---- what the broadcasts owe holds of it
abbrev first_up : Up
first_up = record { by = 4; message = record { epoch = 0; origin = 0; number = 1; kind = 1; value = 0 } }

abbrev second_up : Up
second_up = record { by = 5; message = record { epoch = 1; origin = 0; number = 2; kind = 0; value = 5 } }

ups : ups_at 0 (trace script exts) ≡ first_up ∷ second_up ∷ []
ups = refl

-- all steps are at node 0, so nothing comes up elsewhere
no_ups : (v : ℕ) → 0 ≢ v → (past : List HandlerStep) → list_all (λ (x : HandlerStep). x.node == 0) past ≡ true → ups_at v past ≡ []
no_ups v ne [] all = refl
no_ups v ne (x ∷ past) all = go (x.node == 0) refl all (no_ups v ne past)
  where
    rest : Bool
    rest = list_all (λ (y : HandlerStep). y.node == 0) past

    away : x.node ≡ 0 → (x.node == v) ≡ false
    away is = other (eqb_tells x.node v)
      where
        other : ((x.node == v) ≡ true) × (x.node ≡ v) ⊎ ((x.node == v) ≡ false) × (x.node ≢ v) → (x.node == v) ≡ false
        other (inl same) = absurd (ne (sym is ∙ same.1))
        other (inr e) = e.0

    go : (b : Bool) → (x.node == 0) ≡ b → (b && rest) ≡ true → (rest ≡ true → ups_at v past ≡ []) → ups_at v (x ∷ past) ≡ []
    go true e others ih =
        ap (λ (n : Bool). ups_at v past ++ (if n && (micro_of x == 6) then up_in (caller past) x.moment else [])) (away (eqb-true x.node 0 e))
        ∙ (append-nil (ups_at v past) ∙ ih others)
    go false e others ih = cc

elsewhere : (v : ℕ) → 0 ≢ v → ups_at v (trace script exts) ≡ []
elsewhere v ne = no_ups v ne (trace script exts) refl

-- the step at a place of the trace
nobody : HandlerStep
nobody = record {
  comp = 0;
  node = 0;
  call = record { number = 0; handler = handler 0 0 };
  moment = Moment.Begin 0 [];
  old = State.Registers [];
  new = State.Registers [];
  outcome = Outcome.Done [];
  effective = true;
}

abbrev step_at : List HandlerStep → ℕ → HandlerStep
step_at [] i = nobody
step_at (x ∷ past) zero = x
step_at (x ∷ past) (suc i) = step_at past i

there_at : (past : List HandlerStep) (i : ℕ) → i < length past → In (step_at past i) past
there_at [] i lt = absurd (omega arith)
there_at (x ∷ past) zero lt = inl refl
there_at (x ∷ past) (suc i) lt = inr (there_at past i (omega arith))

first_given : WasSubmitted (trace script exts) first_up
first_given = record {
  step = step_at (trace script exts) 61;
  there = there_at (trace script exts) 61 (omega arith);
  broadcast = inl refl;
  handler_is = refl;
  arg = 0 ∷ 0 ∷ 1 ∷ 1 ∷ 0 ∷ [];
  moment = refl;
  message = refl;
}

second_given : WasSubmitted (trace script exts) second_up
second_given = record {
  step = step_at (trace script exts) 16;
  there = there_at (trace script exts) 16 (omega arith);
  broadcast = inr refl;
  handler_is = refl;
  arg = 1 ∷ 0 ∷ 2 ∷ 0 ∷ 5 ∷ [];
  moment = refl;
  message = refl;
}

one_given : (c : Up) → In c (first_up ∷ second_up ∷ []) → WasSubmitted (trace script exts) c
one_given c (inl e) = subst (λ (d : Up). WasSubmitted (trace script exts) d) (sym e) first_given
one_given c (inr (inl e)) = subst (λ (d : Up). WasSubmitted (trace script exts) d) (sym e) second_given
one_given c (inr (inr out)) = absurd out

submitted_at : (past : List HandlerStep) → ups_at 0 past ≡ first_up ∷ second_up ∷ [] → ((v : ℕ) → 0 ≢ v → ups_at v past ≡ [])
    → ((c : Up) → In c (first_up ∷ second_up ∷ []) → WasSubmitted past c) → (v : ℕ) (c : Up) → In c (ups_at v past) → WasSubmitted past c
submitted_at past at_zero none given v c there = go (eqb_tells 0 v)
  where
    go : ((0 == v) ≡ true) × (0 ≡ v) ⊎ ((0 == v) ≡ false) × (0 ≢ v) → WasSubmitted past c
    go (inl same) = given c (subst (λ (l : List Up). In c l) at_zero (subst (λ (u : ℕ). In c (ups_at u past)) (sym same.1) there))
    go (inr other) = absurd (subst (λ (l : List Up). In c l) (none v other.1) there)

submitted : AreSubmitted script exts
submitted = submitted_at (trace script exts) ups elsewhere one_given

keeps : KeepsOrder script exts
keeps p broadcast v u = go (eqb_tells 0 v) (eqb_tells 0 u)
  where
    listed : ℕ → List Message
    listed w = first_places (called_by p (ups_at w (trace script exts)))

    none : (w : ℕ) → 0 ≢ w → listed w ≡ []
    none w ne = ap (λ (l : List Up). first_places (called_by p l)) (elsewhere w ne)

    go : ((0 == v) ≡ true) × (0 ≡ v) ⊎ ((0 == v) ≡ false) × (0 ≢ v) → ((0 == u) ≡ true) × (0 ≡ u) ⊎ ((0 == u) ≡ false) × (0 ≢ u) → Comparable (listed v) (listed u)
    go (inr other) which = subst (λ (l : List Message). Comparable l (listed u)) (sym (none v other.1)) (inl (record { rest = listed u; is = refl }))
    go (inl same) (inr other) = subst (λ (l : List Message). Comparable (listed v) l) (sym (none u other.1)) (inr (record { rest = listed v; is = refl }))
    go (inl same) (inl also) = subst (λ (w : ℕ). Comparable (listed v) (listed w)) (sym same.1 ∙ also.1) (inl (record { rest = []; is = sym (append-nil (listed v)) }))

-- so the law holds of it
held : (v u : ℕ) → Comparable (stream_at script exts v) (stream_at script exts u)
held v u = comparable script exts history keeps submitted v u

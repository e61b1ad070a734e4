-- A group history of two nodes that the prover runs: node 0 casts a change of the broadcast, both nodes estimate, adopt and vote, each
-- decides and is rebound, and then two messages come through the sequencer. Node 1 has not heard the second one.
use Rattle.std.proofs.Common.{◌≡◌, ℕ, zero, suc, inl, inr, refl, sym, append-nil, arith, List, [], ◌∷◌, Some}
use Rattle.std.specs.Prelude.{slice_get}
use Rattle.samoa_model.specs.declared.handler.Dest.{Dest}
use Rattle.samoa_model.specs.declared.record.Cause.{Cause}
use Rattle.samoa_model.specs.declared.record.Entry.{Entry}
use Rattle.samoa_model.specs.declared.record.Ext.{Ext}
use Rattle.samoa_model.specs.declared.script.Script.{Script}
use Rattle.samoa_serial.specs.SerialRun.{ran_of, serial}
use Rattle.samoa_serial.specs.Whole.{Ran}
use Rattle.samoa_serial.specs.declared.message.Message.{Message}
use Rattle.samoa_serial.specs.Lists.{In}
use Rattle.samoa_laws.specs.trace.Group.{IsGroupHistory, IsRebinding, IsTo, IsWire, change, event, group_changes, group_decls, group_events, group_micros}
use Rattle.samoa_laws.specs.lists.Lists.{Comparable}
use Rattle.samoa_laws.specs.streams.Streams.{stream_at}
use Rattle.samoa_laws.proofs.streams.Order.{comparable}
use Rattle.samoa_laws.specs.consensus.Decided.{decided_at}
use Rattle.samoa_laws.proofs.consensus.Decided.{decisions}
use Rattle.samoa_laws.proofs.streams.Owed.{are_submitted, keeps_order}
use Rattle.samoa_laws.proofs.trace.Allowed.{allowed_at}

abbrev script : Script
script = record {
  nodes = 2;
  ticks = 20;
  micros = group_micros;
  decls = group_decls;
  events = group_events;
  changes = group_changes;
  does = [];
  losses = [];
  crashes = [];
}

abbrev at : ℕ → ℕ → Cause → List ℕ → Ext
at node tick cause args = record { node = record { 0 = node }; tick = tick; cause = cause; args = args }

abbrev turn : Ext
turn = at 0 1 (Cause.Event (event 14)) (1 ∷ 0 ∷ [])

abbrev heard : Ext
heard = at 1 2 (Cause.Event (event 0)) (0 ∷ 1 ∷ 0 ∷ 1 ∷ 0 ∷ 0 ∷ 0 ∷ 1 ∷ 1 ∷ 0 ∷ [])

abbrev estimate : Ext
estimate = at 0 3 (Cause.Event (event 0)) (0 ∷ 2 ∷ 1 ∷ 1 ∷ 1 ∷ 0 ∷ 0 ∷ 0 ∷ 1 ∷ 1 ∷ 0 ∷ [])

abbrev other_estimate : Ext
other_estimate = at 0 4 (Cause.Event (event 0)) (1 ∷ 2 ∷ 1 ∷ 1 ∷ 1 ∷ 0 ∷ 0 ∷ 0 ∷ 1 ∷ 1 ∷ 0 ∷ [])

abbrev proposal : Ext
proposal = at 0 5 (Cause.Event (event 0)) (0 ∷ 2 ∷ 2 ∷ 1 ∷ 1 ∷ 0 ∷ 0 ∷ 0 ∷ 1 ∷ 1 ∷ 0 ∷ [])

abbrev other_proposal : Ext
other_proposal = at 1 6 (Cause.Event (event 0)) (0 ∷ 2 ∷ 2 ∷ 1 ∷ 1 ∷ 0 ∷ 0 ∷ 0 ∷ 1 ∷ 1 ∷ 0 ∷ [])

abbrev vote : Ext
vote = at 0 7 (Cause.Event (event 0)) (0 ∷ 2 ∷ 3 ∷ 1 ∷ 1 ∷ 0 ∷ 0 ∷ 0 ∷ 1 ∷ 1 ∷ 0 ∷ [])

abbrev other_vote : Ext
other_vote = at 0 8 (Cause.Event (event 0)) (1 ∷ 2 ∷ 3 ∷ 1 ∷ 1 ∷ 0 ∷ 0 ∷ 0 ∷ 1 ∷ 1 ∷ 0 ∷ [])

abbrev told : Ext
told = at 1 9 (Cause.Event (event 0)) (0 ∷ 1 ∷ 0 ∷ 2 ∷ 1 ∷ 1 ∷ 0 ∷ 0 ∷ 1 ∷ 1 ∷ 0 ∷ [])

abbrev rebinds : Ext
rebinds = at 0 10 (Cause.Change (change 0)) (1 ∷ [])

abbrev other_rebinds : Ext
other_rebinds = at 1 11 (Cause.Change (change 0)) (1 ∷ [])

abbrev casts : Ext
casts = at 1 12 (Cause.Event (event 14)) (0 ∷ 5 ∷ [])

abbrev asks : Ext
asks = at 0 13 (Cause.Event (event 0)) (1 ∷ 3 ∷ 0 ∷ 1 ∷ 1 ∷ 1 ∷ 0 ∷ 5 ∷ [])

abbrev tells : Ext
tells = at 0 14 (Cause.Event (event 0)) (0 ∷ 3 ∷ 1 ∷ 1 ∷ 1 ∷ 1 ∷ 1 ∷ 0 ∷ 5 ∷ [])

abbrev other_tells : Ext
other_tells = at 1 15 (Cause.Event (event 0)) (0 ∷ 3 ∷ 1 ∷ 1 ∷ 1 ∷ 1 ∷ 1 ∷ 0 ∷ 5 ∷ [])

abbrev casts_again : Ext
casts_again = at 0 16 (Cause.Event (event 14)) (0 ∷ 6 ∷ [])

abbrev asks_again : Ext
asks_again = at 0 17 (Cause.Event (event 0)) (0 ∷ 3 ∷ 0 ∷ 1 ∷ 0 ∷ 2 ∷ 0 ∷ 6 ∷ [])

abbrev tells_again : Ext
tells_again = at 0 18 (Cause.Event (event 0)) (0 ∷ 3 ∷ 1 ∷ 2 ∷ 1 ∷ 0 ∷ 2 ∷ 0 ∷ 6 ∷ [])

abbrev exts : List Ext
exts =
    turn ∷ heard ∷ estimate ∷ other_estimate ∷ proposal ∷ other_proposal ∷ vote ∷ other_vote ∷ told
    ∷ rebinds ∷ other_rebinds ∷ casts ∷ asks ∷ tells ∷ other_tells ∷ casts_again ∷ asks_again ∷ tells_again ∷ []

-- ---- what it does
abbrev turned : Message
turned = record { epoch = 0; origin = 0; number = 1; kind = 1; value = 0 }

decides : (decided_at script exts 0 1 ≡ Some turned) × (decided_at script exts 1 1 ≡ Some turned)
decides = (refl, refl)

delivers : (stream_at script exts 0 ≡ (1 ∷ 1 ∷ 0 ∷ 5 ∷ []) ∷ (0 ∷ 2 ∷ 0 ∷ 6 ∷ []) ∷ []) × (stream_at script exts 1 ≡ (1 ∷ 1 ∷ 0 ∷ 5 ∷ []) ∷ [])
delivers = (refl, refl)

-- ---- it is a group history
got_in : {A : Type 0} (xs : List A) (i : ℕ) (x : A) → slice_get xs i ≡ Some x → In x xs
got_in [] i x e = absurd (cc)
got_in {A} (y ∷ ys) zero x e = inl (inner e)
  where
    inner : Some y ≡ Some x → x ≡ y
    inner f = cc
got_in (y ∷ ys) (suc i) x e = inr (got_in ys i x e)

-- computation k of those before, the run here, has this message at place i of its entries
wire_from : (before : List Ext) (ext : Ext) (k i call : ℕ) (ran : Ran) (to : Dest) → ext.cause ≡ Cause.Event (event 0) → slice_get (serial script before).comps k ≡ Some ran
    → slice_get ran.world.entries i ≡ Some (Entry.Sent call to (event 0) ext.args) → IsTo ext.node.0 to → IsWire script before ext
wire_from before ext k i call ran to cause served entry here = record {
  cause = cause;
  sent = record {
    ran = ran;
    served = got_in (serial script before).comps k ran served;
    call = call;
    to = to;
    here = here;
    entry = got_in ran.world.entries i (Entry.Sent call to (event 0) ext.args) entry;
  };
}

heard_sent : IsWire script (turn ∷ []) heard
heard_sent = wire_from (turn ∷ []) heard 0 4 4 (ran_of script [] ((serial script []).states 0) turn) Dest.All refl refl refl tt

estimate_sent : IsWire script (turn ∷ heard ∷ []) estimate
estimate_sent = wire_from (turn ∷ heard ∷ []) estimate 0 11 8 (ran_of script [] ((serial script []).states 0) turn) (Dest.One (record { 0 = 0 })) refl refl refl refl

other_estimate_sent : IsWire script (turn ∷ heard ∷ estimate ∷ []) other_estimate
other_estimate_sent = wire_from (turn ∷ heard ∷ estimate ∷ []) other_estimate 1 10 7 (ran_of script (turn ∷ []) ((serial script (turn ∷ [])).states 1) heard) (Dest.One (record { 0 = 0 })) refl refl refl refl

proposal_sent : IsWire script (turn ∷ heard ∷ estimate ∷ other_estimate ∷ []) proposal
proposal_sent = wire_from (turn ∷ heard ∷ estimate ∷ other_estimate ∷ []) proposal 3 3 3 (ran_of script (turn ∷ heard ∷ estimate ∷ []) ((serial script (turn ∷ heard ∷ estimate ∷ [])).states 0) other_estimate) Dest.All refl refl refl tt

other_proposal_sent : IsWire script (turn ∷ heard ∷ estimate ∷ other_estimate ∷ proposal ∷ []) other_proposal
other_proposal_sent = wire_from (turn ∷ heard ∷ estimate ∷ other_estimate ∷ proposal ∷ []) other_proposal 3 3 3 (ran_of script (turn ∷ heard ∷ estimate ∷ []) ((serial script (turn ∷ heard ∷ estimate ∷ [])).states 0) other_estimate) Dest.All refl refl refl tt

vote_sent : IsWire script (turn ∷ heard ∷ estimate ∷ other_estimate ∷ proposal ∷ other_proposal ∷ []) vote
vote_sent = wire_from (turn ∷ heard ∷ estimate ∷ other_estimate ∷ proposal ∷ other_proposal ∷ []) vote 4 3 3 (ran_of script (turn ∷ heard ∷ estimate ∷ other_estimate ∷ []) ((serial script (turn ∷ heard ∷ estimate ∷ other_estimate ∷ [])).states 0) proposal) (Dest.One (record { 0 = 0 })) refl refl refl refl

other_vote_sent : IsWire script (turn ∷ heard ∷ estimate ∷ other_estimate ∷ proposal ∷ other_proposal ∷ vote ∷ []) other_vote
other_vote_sent = wire_from (turn ∷ heard ∷ estimate ∷ other_estimate ∷ proposal ∷ other_proposal ∷ vote ∷ []) other_vote 5 3 3 (ran_of script (turn ∷ heard ∷ estimate ∷ other_estimate ∷ proposal ∷ []) ((serial script (turn ∷ heard ∷ estimate ∷ other_estimate ∷ proposal ∷ [])).states 1) other_proposal) (Dest.One (record { 0 = 0 })) refl refl refl refl

told_sent : IsWire script (turn ∷ heard ∷ estimate ∷ other_estimate ∷ proposal ∷ other_proposal ∷ vote ∷ other_vote ∷ []) told
told_sent = wire_from (turn ∷ heard ∷ estimate ∷ other_estimate ∷ proposal ∷ other_proposal ∷ vote ∷ other_vote ∷ []) told 7 4 4 (ran_of script (turn ∷ heard ∷ estimate ∷ other_estimate ∷ proposal ∷ other_proposal ∷ vote ∷ []) ((serial script (turn ∷ heard ∷ estimate ∷ other_estimate ∷ proposal ∷ other_proposal ∷ vote ∷ [])).states 0) other_vote) Dest.All refl refl refl tt

rebinds_asked : IsRebinding script (turn ∷ heard ∷ estimate ∷ other_estimate ∷ proposal ∷ other_proposal ∷ vote ∷ other_vote ∷ told ∷ []) rebinds
rebinds_asked = record { change = change 0; cause = refl; rest = []; first = refl }

other_rebinds_asked : IsRebinding script (turn ∷ heard ∷ estimate ∷ other_estimate ∷ proposal ∷ other_proposal ∷ vote ∷ other_vote ∷ told ∷ rebinds ∷ []) other_rebinds
other_rebinds_asked = record { change = change 0; cause = refl; rest = []; first = refl }

asks_sent : IsWire script (turn ∷ heard ∷ estimate ∷ other_estimate ∷ proposal ∷ other_proposal ∷ vote ∷ other_vote ∷ told ∷ rebinds ∷ other_rebinds ∷ casts ∷ []) asks
asks_sent = wire_from (turn ∷ heard ∷ estimate ∷ other_estimate ∷ proposal ∷ other_proposal ∷ vote ∷ other_vote ∷ told ∷ rebinds ∷ other_rebinds ∷ casts ∷ []) asks 11 3 3 (ran_of script (turn ∷ heard ∷ estimate ∷ other_estimate ∷ proposal ∷ other_proposal ∷ vote ∷ other_vote ∷ told ∷ rebinds ∷ other_rebinds ∷ []) ((serial script (turn ∷ heard ∷ estimate ∷ other_estimate ∷ proposal ∷ other_proposal ∷ vote ∷ other_vote ∷ told ∷ rebinds ∷ other_rebinds ∷ [])).states 1) casts) (Dest.One (record { 0 = 0 })) refl refl refl refl

tells_sent : IsWire script (turn ∷ heard ∷ estimate ∷ other_estimate ∷ proposal ∷ other_proposal ∷ vote ∷ other_vote ∷ told ∷ rebinds ∷ other_rebinds ∷ casts ∷ asks ∷ []) tells
tells_sent = wire_from (turn ∷ heard ∷ estimate ∷ other_estimate ∷ proposal ∷ other_proposal ∷ vote ∷ other_vote ∷ told ∷ rebinds ∷ other_rebinds ∷ casts ∷ asks ∷ []) tells 12 3 3 (ran_of script (turn ∷ heard ∷ estimate ∷ other_estimate ∷ proposal ∷ other_proposal ∷ vote ∷ other_vote ∷ told ∷ rebinds ∷ other_rebinds ∷ casts ∷ []) ((serial script (turn ∷ heard ∷ estimate ∷ other_estimate ∷ proposal ∷ other_proposal ∷ vote ∷ other_vote ∷ told ∷ rebinds ∷ other_rebinds ∷ casts ∷ [])).states 0) asks) Dest.All refl refl refl tt

other_tells_sent : IsWire script (turn ∷ heard ∷ estimate ∷ other_estimate ∷ proposal ∷ other_proposal ∷ vote ∷ other_vote ∷ told ∷ rebinds ∷ other_rebinds ∷ casts ∷ asks ∷ tells ∷ []) other_tells
other_tells_sent = wire_from (turn ∷ heard ∷ estimate ∷ other_estimate ∷ proposal ∷ other_proposal ∷ vote ∷ other_vote ∷ told ∷ rebinds ∷ other_rebinds ∷ casts ∷ asks ∷ tells ∷ []) other_tells 12 3 3 (ran_of script (turn ∷ heard ∷ estimate ∷ other_estimate ∷ proposal ∷ other_proposal ∷ vote ∷ other_vote ∷ told ∷ rebinds ∷ other_rebinds ∷ casts ∷ []) ((serial script (turn ∷ heard ∷ estimate ∷ other_estimate ∷ proposal ∷ other_proposal ∷ vote ∷ other_vote ∷ told ∷ rebinds ∷ other_rebinds ∷ casts ∷ [])).states 0) asks) Dest.All refl refl refl tt

asks_again_sent : IsWire script (turn ∷ heard ∷ estimate ∷ other_estimate ∷ proposal ∷ other_proposal ∷ vote ∷ other_vote ∷ told ∷ rebinds ∷ other_rebinds ∷ casts ∷ asks ∷ tells ∷ other_tells ∷ casts_again ∷ []) asks_again
asks_again_sent = wire_from (turn ∷ heard ∷ estimate ∷ other_estimate ∷ proposal ∷ other_proposal ∷ vote ∷ other_vote ∷ told ∷ rebinds ∷ other_rebinds ∷ casts ∷ asks ∷ tells ∷ other_tells ∷ casts_again ∷ []) asks_again 15 3 3 (ran_of script (turn ∷ heard ∷ estimate ∷ other_estimate ∷ proposal ∷ other_proposal ∷ vote ∷ other_vote ∷ told ∷ rebinds ∷ other_rebinds ∷ casts ∷ asks ∷ tells ∷ other_tells ∷ []) ((serial script (turn ∷ heard ∷ estimate ∷ other_estimate ∷ proposal ∷ other_proposal ∷ vote ∷ other_vote ∷ told ∷ rebinds ∷ other_rebinds ∷ casts ∷ asks ∷ tells ∷ other_tells ∷ [])).states 0) casts_again) (Dest.One (record { 0 = 0 })) refl refl refl refl

tells_again_sent : IsWire script (turn ∷ heard ∷ estimate ∷ other_estimate ∷ proposal ∷ other_proposal ∷ vote ∷ other_vote ∷ told ∷ rebinds ∷ other_rebinds ∷ casts ∷ asks ∷ tells ∷ other_tells ∷ casts_again ∷ asks_again ∷ []) tells_again
tells_again_sent = wire_from (turn ∷ heard ∷ estimate ∷ other_estimate ∷ proposal ∷ other_proposal ∷ vote ∷ other_vote ∷ told ∷ rebinds ∷ other_rebinds ∷ casts ∷ asks ∷ tells ∷ other_tells ∷ casts_again ∷ asks_again ∷ []) tells_again 16 3 3 (ran_of script (turn ∷ heard ∷ estimate ∷ other_estimate ∷ proposal ∷ other_proposal ∷ vote ∷ other_vote ∷ told ∷ rebinds ∷ other_rebinds ∷ casts ∷ asks ∷ tells ∷ other_tells ∷ casts_again ∷ []) ((serial script (turn ∷ heard ∷ estimate ∷ other_estimate ∷ proposal ∷ other_proposal ∷ vote ∷ other_vote ∷ told ∷ rebinds ∷ other_rebinds ∷ casts ∷ asks ∷ tells ∷ other_tells ∷ casts_again ∷ [])).states 0) asks_again) Dest.All refl refl refl tt

history : IsGroupHistory script exts
history = record {
  group = record { micros = refl; decls = refl; events = refl; changes = refl; does = tt };
  few = omega arith;
  known = (record { node = omega arith; cause = omega arith }, (record { node = omega arith; cause = omega arith }, (record { node = omega arith; cause = omega arith }, (record { node = omega arith; cause = omega arith }, (record { node = omega arith; cause = omega arith }, (record { node = omega arith; cause = omega arith }, (record { node = omega arith; cause = omega arith }, (record { node = omega arith; cause = omega arith }, (record { node = omega arith; cause = omega arith }, (record { node = omega arith; cause = omega arith }, (record { node = omega arith; cause = omega arith }, (record { node = omega arith; cause = omega arith }, (record { node = omega arith; cause = omega arith }, (record { node = omega arith; cause = omega arith }, (record { node = omega arith; cause = omega arith }, (record { node = omega arith; cause = omega arith }, (record { node = omega arith; cause = omega arith }, (record { node = omega arith; cause = omega arith }, tt))))))))))))))))));
  allowed = allowed_at script [] exts (inl (inl refl), (inr (inl heard_sent), (inr (inl estimate_sent), (inr (inl other_estimate_sent), (inr (inl proposal_sent), (inr (inl other_proposal_sent), (inr (inl vote_sent), (inr (inl other_vote_sent), (inr (inl told_sent), (inr (inr rebinds_asked), (inr (inr other_rebinds_asked), (inl (inl refl), (inr (inl asks_sent), (inr (inl tells_sent), (inr (inl other_tells_sent), (inl (inl refl), (inr (inl asks_again_sent), (inr (inl tells_again_sent), tt))))))))))))))))));
}

-- ---- so the laws speak of it
agrees : (m n : Message) → decided_at script exts 0 1 ≡ Some m → decided_at script exts 1 1 ≡ Some n → m ≡ n
agrees m n = decisions script exts exts [] exts [] 0 1 1 m n history (sym (append-nil exts)) (sym (append-nil exts))

begins : Comparable (stream_at script exts 0) (stream_at script exts 1)
begins = comparable script exts history (keeps_order script exts history) (are_submitted script exts history) 0 1

-- What the boxes of the group stack never ask for, and which of them calls which event.
use Rattle.std.proofs.Common.{◌≡◌, ◌≢◌, ℕ, ◌+◌, zero, suc, refl, sym, subst, arith, List, [], ◌∷◌, length, Option, Some, None, not, ◌==◌, ◌||◌}
use Rattle.std.specs.Prelude.{⊤, nat_lt, slice_index_or}
use Rattle.samoa_model.specs.Scripts.{no_micro}
use Rattle.samoa_model.specs.declared.ids.EventId.{EventId}
use Rattle.samoa_model.specs.declared.handler.Moment.{Moment}
use Rattle.samoa_model.specs.declared.handler.Outcome.{Outcome}
use Rattle.samoa_model.specs.declared.setup.Kind.TheVariants.{Fd, Link, Prog, Seqcast, Views}
use Rattle.samoa_model.specs.declared.setup.Setup.{Setup}
use Rattle.samoa_serial.specs.FdTable as fd
use Rattle.samoa_serial.specs.Kinds.{kind_step}
use Rattle.samoa_serial.specs.LinkTable as li
use Rattle.samoa_serial.specs.Rows.{has_key, me, V, message_at, message_key, message_of, port_at, word}
use Rattle.samoa_serial.specs.SeqcastTable as sq
use Rattle.samoa_serial.specs.State.{LinkState, OfFd, OfLink, OfSeqcast, OfViews, Registers, SeqcastState, State, ViewsState}
use Rattle.samoa_serial.specs.ViewsTable as vi
use Rattle.samoa_serial.specs.declared.message.Message.{Message}
use Rattle.samoa_serial.specs.declared.message.Watch.{Watch}
use Rattle.samoa_serial.specs.Lists.{Each}
use Rattle.samoa_laws.proofs.trace.Shapes.{AbCasts, AbHandsOn, AbNothing, AbProposes, AbSays, Casts, ConsAnnounces, ConsDecides, ConsNothing, ConsSays, ConsTells, HandsUp, IsDone, RbShape, Relays, Rests, abcast-step, cons-step, rbcast-step}
use Rattle.samoa_serial.proofs.RowLaws.{Row, either, either_outcome}
use Rattle.samoa_laws.proofs.trace.Worlds.{group_micro, group_setup, setup_from}

-- ---- changes are asked for by the replacement layer alone
abbrev pub NoChange : Outcome → Type 0
NoChange (Outcome.Change change arg frame) = ⊥
NoChange _ = ⊤

link_row : (setup : Setup) (s : LinkState) (m : Moment) → Row NoChange (li.link_step setup s m)
link_row setup s (Moment.Begin handler arg) =
    either NoChange (handler == 0) (record { holds = tt })
    (either NoChange (handler == 1) (record { holds = either_outcome NoChange (nat_lt (word arg 1 + 1) (length setup.ports)) tt tt }) (record { holds = tt }))
link_row setup s (Moment.Resume handler frame reply) = record { holds = tt }

suspect_row : (setup : Setup) (s : List Watch) (x : Option ℕ) → Row NoChange (fd.fd_suspect setup s x)
suspect_row setup s None = record { holds = tt }
suspect_row setup s (Some x) = record { holds = tt }

fd_row : (setup : Setup) (s : List Watch) (m : Moment) → Row NoChange (fd.fd_step setup s m)
fd_row setup s (Moment.Begin handler arg) = either NoChange (handler == 0) (record { holds = tt }) (either NoChange (handler == 1) (record { holds = tt }) (record { holds = tt }))
fd_row setup s (Moment.Resume handler frame reply) = either NoChange (handler == 0) (suspect_row setup s (fd.fd_due setup (word frame 0) 0 s)) (record { holds = tt })

views_row : (setup : Setup) (s : ViewsState) (m : Moment) → Row NoChange (vi.views_step setup s m)
views_row setup s (Moment.Begin handler arg) = either NoChange (handler == 0) (record { holds = tt }) (either NoChange (handler == 1) (record { holds = tt }) (record { holds = tt }))
views_row setup s (Moment.Resume handler frame reply) = record { holds = tt }

seqcast-drain : (setup : Setup) (s : SeqcastState) → Row NoChange (sq.seqcast_drain setup s)
seqcast-drain setup s = record { holds = go (message_of s.got s.next) }
  where
    go : (m : Option Message) → NoChange (sq.seqcast_hand_on setup s.next m)
    go None = tt
    go (Some m) = tt

seqcast-number : (setup : Setup) (s : SeqcastState) (m : Message) → Row NoChange (sq.seqcast_number setup s m)
seqcast-number setup s m = either NoChange (not (me setup == V setup 1) || has_key s.keys (message_key m)) (record { holds = tt }) (record { holds = tt })

seqcast_row : (setup : Setup) (s : SeqcastState) (m : Moment) → Row NoChange (sq.seqcast_step setup s m)
seqcast_row setup s (Moment.Begin handler arg) =
    either NoChange (handler == 0) (record { holds = tt })
    (either NoChange (handler == 1)
    (either NoChange (word arg 1 == 0) (seqcast-number setup s (message_at arg 2))
    (either NoChange (word arg 1 == 1) (seqcast-drain setup _) (record { holds = tt })))
    (record { holds = tt }))
seqcast_row setup s (Moment.Resume handler frame reply) =
    either NoChange (handler == 1) (either NoChange (word frame 0 == 1) (seqcast-drain setup _) (record { holds = tt })) (record { holds = tt })

done_no_change : (o : Outcome) → IsDone o → NoChange o
done_no_change (Outcome.Done reply) d = tt
done_no_change (Outcome.Call event arg frame) d = tt
done_no_change (Outcome.Later event arg frame) d = tt
done_no_change (Outcome.Send to event arg frame) d = tt
done_no_change (Outcome.Deliver arg frame) d = tt
done_no_change (Outcome.Change change arg frame) d = d

call_no_change : (o : Outcome) (event : EventId) (arg frame : List ℕ) → o ≡ Outcome.Call event arg frame → NoChange o
call_no_change o event arg frame is = subst NoChange (sym is) tt

rb_no_change : (setup : Setup) (m : Moment) (o : Outcome) → RbShape setup m o → NoChange o
rb_no_change setup m o (Casts a begun number is) = call_no_change o _ _ _ is
rb_no_change setup m o (Relays a begun is) = call_no_change o _ _ _ is
rb_no_change setup m o (HandsUp i f r resumed one next two is) = call_no_change o _ _ _ is
rb_no_change setup m o (Rests d) = done_no_change o d

cons_no_change : (setup : Setup) (o : Outcome) → ConsSays setup o → NoChange o
cons_no_change setup o (ConsNothing d) = done_no_change o d
cons_no_change setup o (ConsTells to tag b ts m frame is) = call_no_change o _ _ _ is
cons_no_change setup o (ConsAnnounces i m is) = call_no_change o _ _ _ is
cons_no_change setup o (ConsDecides i m is) = call_no_change o _ _ _ is

ab_no_change : (setup : Setup) (o : Outcome) → AbSays setup o → NoChange o
ab_no_change setup o (AbNothing d) = done_no_change o d
ab_no_change setup o (AbCasts m is) = call_no_change o _ _ _ is
ab_no_change setup o (AbProposes i m is) = call_no_change o _ _ _ is
ab_no_change setup o (AbHandsOn i m is) = call_no_change o _ _ _ is

by_link : (setup : Setup) (s : State) (m : Moment) → NoChange (kind_step Link setup s m).1
by_link setup (OfLink s) m = (link_row setup s m).holds
by_link setup _ m = tt

by_fd : (setup : Setup) (s : State) (m : Moment) → NoChange (kind_step Fd setup s m).1
by_fd setup (OfFd s) m = (fd_row setup s m).holds
by_fd setup _ m = tt

by_seqcast : (setup : Setup) (s : State) (m : Moment) → NoChange (kind_step Seqcast setup s m).1
by_seqcast setup (OfSeqcast s) m = (seqcast_row setup s m).holds
by_seqcast setup _ m = tt

by_views : (setup : Setup) (s : State) (m : Moment) → NoChange (kind_step Views setup s m).1
by_views setup (OfViews s) m = (views_row setup s m).holds
by_views setup _ m = tt

by_none : (setup : Setup) (s : State) (m : Moment) → setup.codes ≡ [] → NoChange (kind_step Prog setup s m).1
by_none setup (Registers registers) (Moment.Begin handler arg) is = rw is tt
by_none setup (Registers registers) (Moment.Resume handler frame reply) is = rw is tt
by_none setup _ m is = tt

pub kind_changes : (nodes v p : ℕ) (s : State) (m : Moment) → p ≢ 6 → NoChange (kind_step (group_micro p).kind (group_setup nodes v p) s m).1
kind_changes nodes v zero s m ne = by_link (group_setup nodes v 0) s m
kind_changes nodes v (suc zero) s m ne = by_fd (group_setup nodes v 1) s m
kind_changes nodes v (suc (suc zero)) s m ne = rb_no_change (group_setup nodes v 2) m _ (rbcast-step (group_setup nodes v 2) s m)
kind_changes nodes v (suc (suc (suc zero))) s m ne = cons_no_change (group_setup nodes v 3) _ (cons-step (group_setup nodes v 3) s m)
kind_changes nodes v (suc (suc (suc (suc zero)))) s m ne = ab_no_change (group_setup nodes v 4) _ (abcast-step (group_setup nodes v 4) s m)
kind_changes nodes v (suc (suc (suc (suc (suc zero))))) s m ne = by_seqcast (group_setup nodes v 5) s m
kind_changes nodes v (suc (suc (suc (suc (suc (suc zero)))))) s m ne = absurd (ne refl)
kind_changes nodes v (suc (suc (suc (suc (suc (suc (suc zero))))))) s m ne = by_views (group_setup nodes v 7) s m
kind_changes nodes v (suc (suc (suc (suc (suc (suc (suc (suc p)))))))) s m ne = by_none (setup_from nodes v no_micro) s m refl

-- ---- the events at the ports
port_holds : (P : ℕ → Type 0) (ports : List EventId) (port : ℕ) → P 0 → Each (λ (e : EventId). P e.0) ports → P (slice_index_or ports port (record { 0 = 0 })).0
port_holds P [] port none all = none
port_holds P (e ∷ es) zero none all = all.0
port_holds P (e ∷ es) (suc port) none all = port_holds P es port none all.1

-- none is `switched`
pub port_no_switch : (nodes v p port : ℕ) → (port_at (group_setup nodes v p) port).0 ≢ 18
port_no_switch nodes v p port = port_holds (λ e. e ≢ 18) (group_micro p).ports port (λ e. omega (arith, e)) (ports p)
  where
    ports : (p : ℕ) → Each (λ (e : EventId). e.0 ≢ 18) (group_micro p).ports
    ports zero = (λ e. omega (arith, e), (λ e. omega (arith, e), (λ e. omega (arith, e), (λ e. omega (arith, e), (λ e. omega (arith, e), tt)))))
    ports (suc zero) = (λ e. omega (arith, e), (λ e. omega (arith, e), tt))
    ports (suc (suc zero)) = (λ e. omega (arith, e), (λ e. omega (arith, e), tt))
    ports (suc (suc (suc zero))) = (λ e. omega (arith, e), (λ e. omega (arith, e), (λ e. omega (arith, e), tt)))
    ports (suc (suc (suc (suc zero)))) = (λ e. omega (arith, e), (λ e. omega (arith, e), (λ e. omega (arith, e), tt)))
    ports (suc (suc (suc (suc (suc zero))))) = (λ e. omega (arith, e), (λ e. omega (arith, e), tt))
    ports (suc (suc (suc (suc (suc (suc zero)))))) = (λ e. omega (arith, e), (λ e. omega (arith, e), tt))
    ports (suc (suc (suc (suc (suc (suc (suc zero))))))) = (λ e. omega (arith, e), tt)
    ports (suc (suc (suc (suc (suc (suc (suc (suc p)))))))) = tt

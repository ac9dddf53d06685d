use denote.RattleType.{RattleType}
use denote.Param.Send.{sendable, IsSend, param_send, copied_send, recorded_send, struct_send}
use denote.Param.{param, copied}
use denote.Plain.{UInt}
use denote.Struct.Struct.{Struct}
use denote.Struct.Declared.{shape}
use denote.Struct.Tuple.{TupleAt, type_at}
use mathlib.Core.List.{[], ◌∷◌}
use mir.Syntax.{Sym, w8}
use Rattle.std.specs.Prelude.{codes}
use Rattle.std.proofs.Crossing.{Arc-send, Vec-send}
use Rattle.amqp_engine.specs.declared.port.Port as Port
use Rattle.amqp_auth.specs.declared.provider.AuthProvider as AuthProvider
use Rattle.amqp_locked.specs.contracts.heard.Line as Line
use Rattle.lapin_connection.specs.contracts.shared.Shared.{the_row as shared_row}
use Rattle.lapin_connection.specs.contracts.live.LoopJob as Job
use Rattle.lapin_connection.proofs.Sharing.{shared_send, shared_sync}
use Rattle.lapin_connection.proofs.live.start_thread.Goals as goal
use Rattle.lapin_connection.proofs.live.start_thread.Lts as Lts

-- a line may go to another thread where its port may
line : (T : RattleType) → IsSend T → IsSend (Line.the_row T)
line T t = recorded_send (Line.the_field T).row (Line.the_type T).D (Line.the_type T).to (Line.the_type T).to_one (search (sendable, t))

-- a loop may go to another thread where its port and who answers may
job_field : (T T' : RattleType) (p : Port.Ghosts T.Denot) (a : AuthProvider.Ghosts T'.Denot) → IsSend T → IsSend T' → IsSend (Job.the_field T T' p a).row
job_field T T' p a t t' = search (sendable, line T t, t', Arc-send shared_row shared_send shared_sync, Vec-send (UInt w8) (search sendable)) depth 20

job : (T T' : RattleType) (p : Port.Ghosts T.Denot) (a : AuthProvider.Ghosts T'.Denot) → IsSend T → IsSend T' → IsSend (Job.the_row T T' p a)
job T T' p a t t' = recorded_send (Job.the_field T T' p a).row (Job.the_type T T' p a).D (Job.the_type T T' p a).to (Job.the_type T T' p a).to_one (job_field T T' p a t t')

-- and so what has two parts that may
both : (ν : Sym) (T U : RattleType) → IsSend T → IsSend U → IsSend (TupleAt ν (T ∷ U ∷ []))
both ν T U t u = recorded_send (Struct (shape (type_at ν (T ∷ U ∷ [])))) (type_at ν (T ∷ U ∷ [])).D (type_at ν (T ∷ U ∷ [])).to (type_at ν (T ∷ U ∷ [])).to_one (struct_send (shape (type_at ν (T ∷ U ∷ []))) (t, (u, tt)))

pub spawn-requires-send-F : goal.spawn-requires-send-F
spawn-requires-send-F g c κs within =
    let b : IsSend (TupleAt (codes "lapin_connection::live::fn::start_thread::spawn+Self") (Job.the_row (param 0 g.row.P) (param 1 g.row.A) g.P.Port g.A.AuthProvider ∷ copied 2 g.row.R ∷ []))
    = both (codes "lapin_connection::live::fn::start_thread::spawn+Self") (Job.the_row (param 0 g.row.P) (param 1 g.row.A) g.P.Port g.A.AuthProvider) (copied 2 g.row.R)
    (job (param 0 g.row.P) (param 1 g.row.A) g.P.Port g.A.AuthProvider (search (sendable, c.type_bounds.send-P)) (search (sendable, c.type_bounds.send-A)))
    (search (sendable, c.type_bounds.send-R)) in
    param_send 1 (Lts.arg-0-1 g.row.P g.row.A g.row.R g.P.laws g.A.laws g.R.laws g.R.copy g.P.Port g.P.Port-dict g.A.AuthProvider g.A.AuthProvider-dict g.R.Threads g.R.Threads-dict g.R.Wait g.R.Wait-dict g.R.Clock g.R.Clock-dict g.R.Clone g.R.Clone-dict g.P.Destruct-dict g.A.Destruct-dict κs)
    (record { owned = b.owned; leaving = search sendable depth 12 })

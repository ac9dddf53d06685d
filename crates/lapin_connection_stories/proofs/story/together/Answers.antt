use denote.RattleType.{RattleType}
use denote.Exit.{no}
use denote.Param.Send.{IsSync, param_send, param_sync, arg_sync, shr_sync, recorded_sync, struct_sync}
use denote.Struct.Struct.{Struct}
use denote.Struct.Declared.{shape}
use denote.Struct.Tuple.{TupleAt, type_at}
use mathlib.Core.List.{[], ◌∷◌}
use mir.Syntax.{Sym}
use Rattle.lapin_connection_acts.proofs.Crossing.{hand, stage}
use Rattle.lapin_connection_stories.proofs.story.together.Goals as goal
use Rattle.lapin_connection_stories.proofs.story.together.Lts as Lts

-- a hand may go to another thread
pub for_each_mut-requires-send-T : goal.for_each_mut-requires-send-T
for_each_mut-requires-send-T g c κs within =
    param_send 1 (Lts.arg-0-1 g.row.R g.R.laws g.R.Threads-dict g.R.Wait-dict g.R.Clock-dict κs)
    (record { owned = hand.owned; leaving = hand.leaving })

-- threads may share what has two parts that they may
both : (ν : Sym) (T U : RattleType) → IsSync T → IsSync U → IsSync (TupleAt ν (T ∷ U ∷ []))
both ν T U t u = recorded_sync (Struct (shape (type_at ν (T ∷ U ∷ [])))) (type_at ν (T ∷ U ∷ [])).D (type_at ν (T ∷ U ∷ [])).to (type_at ν (T ∷ U ∷ [])).to_one (struct_sync (shape (type_at ν (T ∷ U ∷ []))) (t, (u, tt)))

-- and so what lends them the runtime and the stage
pub for_each_mut-requires-sync-F : goal.for_each_mut-requires-sync-F
for_each_mut-requires-sync-F g c κs within =
    param_sync 2 (Lts.arg-0-2 g.row.R g.R.laws g.R.Threads-dict g.R.Wait-dict g.R.Clock-dict κs)
    (arg_sync _ no _ (both _ _ _ (shr_sync _ _ _ (param_sync 0 _ c.type_bounds.sync-R)) (shr_sync _ _ _ (stage _))))

-- The move of a client at a stage, by the stage's number in the definition's list: SPECIFICATION 3.3. Assumes nothing.
use Rattle.std.specs.Prelude.{◌≡◌, get_or}
use Rattle.std.proofs.Common.{ap, inl, inr, arith}
use Rattle.std.proofs.lemmas.List.{get_or_past}
use Rattle.pool.specs.Moves.{stuck}
use Rattle.pool.specs.Stages.{stages, no_stage, stage_move}
use Rattle.pool.specs.declared.Pool.{Pool}
use Rattle.pool.specs.declared.Client.{Client}
use Rattle.pool.specs.declared.Move.{Move}
use Rattle.answers.specs.declared.stage.Stage.{Stage}
use Rattle.answers.specs.Numbers.{stage_number, NoStage}

abbrev pub turn_at : Stage → Pool → Client → Move
turn_at s = get_or stages (stage_number s) no_stage

module _ (p : Pool) (k : Client) where
  pub stage_move_is : (s : Stage) → k.stage ≡ stage_number s → stage_move p k ≡ turn_at s p k
  unfolding stage_move
  stage_move_is s h = ap (λ n. get_or stages n no_stage p k) h

  pub no_stage_move : NoStage k.stage → stage_move p k ≡ stuck k
  unfolding stage_move
  no_stage_move (inl h) = ap (λ n. get_or stages n no_stage p k) h
  no_stage_move (inr h) = ap (λ (s : Pool → Client → Move). s p k) (get_or_past stages k.stage no_stage (omega arith))

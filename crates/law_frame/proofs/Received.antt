-- A MESSAGE: what outlives its pieces outlives it.
use Rattle.std.proofs.Common.{refl}
use Rattle.pg_run.specs.pg_msg.declared.message.Message.{Message}
use Rattle.pg_run.specs.pg_msg.declared.message.Message.TheVariants as message
use Rattle.pg_run.specs.pg_msg.declared.work.Work.{Work}
use Rattle.pg_run.specs.pg_store.declared.store.Store.{Store}
use Rattle.pg_run.specs.pg_pieces.Done.{Done, idle}
use Rattle.pg_run.specs.pg_server.Local.{receive}
use Rattle.law_frame.proofs.Along.{ack_keeps, cell_keeps, delta_keeps, harbinger_keeps, later_keeps, piece_keeps, want_keeps}
use Rattle.law_frame.proofs.Children.{confirm_keeps, here_keeps, none_here_keeps, place_is_keeps, seek_keeps, tell_keeps, tell_ok_keeps, walk_keeps}
use Rattle.law_frame.proofs.Keeps.{Keeps, Kept}
use Rattle.law_frame.proofs.Replicas.{bye_keeps, bye_ok_keeps, fetch_keeps, full_keeps, gone_keeps, grant_keeps, invite_keeps, leave_keeps, leave_ok_keeps, no_grant_keeps}

module _ (a : Store) (w : Work) (I : Done → Type 0) where
  pub received : (m : Message) → Keeps a w m I → Kept w I (idle a w) → Kept w I (receive a m w)
  received (message.Cell ends tag c) k h = cell_keeps a w I ends tag c k h
  received (message.Ack ends q tag) k h = ack_keeps a w I ends q tag k h
  received (message.Harbinger ends tag head) k h = harbinger_keeps a w I ends tag head k h
  received (message.Want ends wanted) k h = want_keeps a w I ends wanted k h
  received (message.Delta ends d) k h = delta_keeps a w I ends d k h
  received (message.Piece ends p) k h = piece_keeps a w I ends p k h
  received (message.Later ends stamp) k h = later_keeps a w I ends stamp k h
  received (message.Fetch file birth) k h = fetch_keeps a w I file birth k h
  received (message.Grant ends granted) k h = grant_keeps a w I ends granted k h
  received (message.NoGrant file birth) k h = no_grant_keeps a w I file birth k h
  received (message.Full ends) k h = full_keeps a w I ends k h
  received (message.Seek file birth) k h = seek_keeps a w I file birth k h
  received (message.Greet ends why) k h = here_keeps a w I ends why k h
  received (message.NoneHere what file child) k h = none_here_keeps a w I what file child k h
  received (message.Gone file birth) k h = gone_keeps a w I file birth k h
  received (message.Bye ends) k h = bye_keeps a w I ends k h
  received (message.ByeOk file birth) k h = bye_ok_keeps a w I file birth k h
  received (message.Confirm dir e) k h = confirm_keeps a w I dir e k h
  received (message.PlaceIs dir e) k h = place_is_keeps a w I dir e k h
  received (message.Tell dir e) k h = tell_keeps a w I dir e k h
  received (message.TellOk dir child stamp) k h = tell_ok_keeps a w I dir child stamp k h
  received (message.Leave ends stamp) k h = leave_keeps a w I ends stamp k h
  received (message.LeaveOk ends stamp) k h = leave_ok_keeps a w I ends stamp k h
  received (message.Invite ends) k h = invite_keeps a w I ends k h
  received (message.Walk ends origin birth hops word) k h =
      walk_keeps a w I ends origin birth hops word k h

  -- THE WALK
  pub receive_keeps : (m : Message) → Keeps a w m I → I (idle a w) → I (receive a m w)
  receive_keeps m k h = (received m k (h, refl)).0

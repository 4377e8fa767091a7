-- How a call ends, and that a command that was not begun did nothing.
use Rattle.std.proofs.Common.{ℕ, ◌≡◌, ◌+◌, ◌⊎◌, ◌∙◌, arith, List, [], ◌∷◌, inl, inr, refl, sym, subst, Some, None}
use Rattle.std.proofs.lemmas.List.{append-nil}
use Rattle.std.specs.declared.option.Option.{Option}
use Rattle.std.specs.Io.KnownBytes.{Appends}
use Rattle.pg_program.proofs.Nodes.{answered_by_fault, survives_idle}
use Rattle.pg_program.specs.Acts.{Acts, Calls, Keeps, Nodes, Replays, WritesText}
use Rattle.pg_program.specs.Ending.{IsCallEnd}
use Rattle.pg_program.specs.Seen.{Seen}
use Rattle.pg_program.specs.Written.{handed}
use Rattle.pg_call.specs.declared.reply.Reply.{Reply}
use Rattle.pg_call.specs.declared.reply.Reply.TheVariants as reply
use Rattle.pg_client.specs.Asks as client
use Rattle.pg_client.specs.Replies.{ended_by, first_reply}
use Rattle.pg_command.specs.declared.command.Command.{Command}
use Rattle.pg_command.specs.declared.command.Command.TheVariants.{Replay, Make, Soak, Node, Call, Help}
use Rattle.pg_event.specs.declared.status.Status.{Status}
use Rattle.pg_event.specs.declared.status.Status.TheVariants as status
use Rattle.pg_meter.specs.declared.meter.Reading.{Reading}
use Rattle.pg_net.proofs.Noted.{taken-none}
use Rattle.pg_net.specs.Net.{Datagram, Told as NetTold}
use Rattle.pg_packet_write.specs.declared.datagram.Request.{Request}

-- ---- a call

reply_end : (found : Option Reply) → IsCallEnd (ended_by found)
reply_end None = tt
reply_end (Some reply.Done) = tt
reply_end (Some (reply.Made id)) = tt
reply_end (Some (reply.Wrote stamp)) = tt
reply_end (Some (reply.Bytes bytes)) = tt
reply_end (Some (reply.Names total rows)) = tt
reply_end (Some (reply.Stat stat)) = tt
reply_end (Some (reply.Leaving server)) = tt
reply_end (Some (reply.Status counts)) = tt
reply_end (Some (reply.Refused why)) = tt

pub call_end : (s : Status) (gave : List (Option Datagram)) → client.Ends s gave → IsCallEnd s
call_end s gave ends = elim ends.all [
  | inl f ↦ elim f [
    | inl e ↦ subst IsCallEnd (sym e) tt
    | inr g ↦ elim g [
      | inl e ↦ subst IsCallEnd (sym e) tt
      | inr e ↦ subst IsCallEnd (sym e) tt
    ]
  ]
  | inr e ↦ subst IsCallEnd (sym e) (reply_end (first_reply gave))
]

-- ---- nothing was done

nothing_written : (held : Option (List ℕ)) → Appends held held []
nothing_written None = tt
nothing_written (Some bytes) = sym (append-nil bytes)

nothing_ended : client.Ends status.OutOfMemory []
nothing_ended = record {
  all = inl (inr (inr refl));
  done = λ e. absurd cc;
  refused = λ n e. absurd cc;
  spent = λ e. absurd cc;
  unheard = λ e. absurd cc;
  unwritten = λ e. absurd cc;
}

nothing_asked : (nt : Type 0) (port : ℕ) (asked : Request) (n : NetTold) (t : ℕ)
    (held : Option (List ℕ))
    → client.Asks nt port asked status.OutOfMemory n n t t held held
nothing_asked nt port asked n t held = record {
  gave = [];
  few = omega arith;
  given = λ tells. sym (append-nil n.given);
  taken = taken-none t;
  sent = λ tells. inl (record { sent = refl; none = refl; fault = inr refl });
  wrote = (0, nothing_written held, λ other memory. absurd (memory refl));
  ends = nothing_ended;
}

nothing_replayed : (meters : List Reading) (a : Seen) → Replays meters status.OutOfMemory a a
nothing_replayed meters a = record {
  done = λ e. absurd cc;
  whole = λ e. absurd cc;
  whole_first = λ e. absurd cc;
  prefix = λ e. absurd cc;
  read = λ e. absurd cc;
  write = λ e. absurd cc;
  long = λ e. absurd cc;
  short = λ input left long calm. inr refl;
  bad = λ n f e. absurd cc;
  whole_bad = λ n f e. absurd cc;
  first_bad = λ input n f left short bad calm. inr refl;
  complete = λ good calm quiet. inr refl;
  ends = tt;
}

nothing_told : (IsText : List ℕ → Type 0) (a : Seen) → WritesText IsText status.OutOfMemory a a
nothing_told IsText a = record {
  done = λ e. absurd cc;
  prefix = λ e. absurd cc;
  write = λ e. absurd cc;
  complete = λ calm. inr refl;
  ends = tt;
}

nothing_served : (nt ct dt : Type 0) (server servers port : ℕ) (name : List ℕ) (turns : ℕ) (a : Seen)
    → Nodes nt ct dt (Node server servers port name turns) status.OutOfMemory a a
nothing_served nt ct dt server servers port name turns a = record {
  does = inl (record {
    ends = inl refl;
    net = refl;
    takes = refl;
    clock = refl;
    disk = λ tells. refl;
  });
  safe = survives_idle nt dt server servers port name a.net a.net a.disk a.disk refl (λ tells. refl);
  answers = λ tells. answered_by_fault server servers a.net_faults a.net_faults a.disk_faults
      a.disk_faults _ status.OutOfMemory (inl refl);
  ends = inr (inl (inl refl));
}

nothing_called : (nt ct dt : Type 0) (server port : ℕ) (asked : Request) (a : Seen)
    → Calls nt ct dt (Call server port asked) status.OutOfMemory a a
nothing_called nt ct dt server port asked a = record {
  does = nothing_asked nt (port + server) asked a.net a.takes a.output;
  net = λ e. absurd cc;
  write = λ e. absurd cc;
  ends = tt;
}

pub nothing_done : (nt ct dt : Type 0) (c : Command) (meters : List Reading) (a : Seen)
    → Acts nt ct dt c meters status.OutOfMemory a a
nothing_done nt ct dt (Replay metered) meters a = nothing_replayed (handed metered meters) a
nothing_done nt ct dt (Make n) meters a = nothing_told _ a
nothing_done nt ct dt (Soak n) meters a = nothing_told _ a
nothing_done nt ct dt (Node server servers port name turns) meters a =
    nothing_served nt ct dt server servers port name turns a
nothing_done nt ct dt (Call server port asked) meters a = nothing_called nt ct dt server port asked a
nothing_done nt ct dt (Help help) meters a = nothing_told _ a

-- all is left alone
pub nothing_touched : {S K N D C : Type 0} → (c : Command) (s : Status) (x : S) (k : K) (n : N)
    (d : D) (o : C)
    → Keeps c s x x k k n n d d o o
nothing_touched (Replay metered) s x k n d o = (refl, refl, refl, λ a b. refl)
nothing_touched (Make numbers) s x k n d o = (refl, refl, refl, refl, λ a b. refl)
nothing_touched (Soak numbers) s x k n d o = (refl, refl, refl, refl, λ a b. refl)
nothing_touched (Node server servers port name turns) s x k n d o = (refl, refl)
nothing_touched (Call server port request) s x k n d o = (refl, refl, refl)
nothing_touched (Help help) s x k n d o = (refl, refl, refl, refl, λ a b. refl)

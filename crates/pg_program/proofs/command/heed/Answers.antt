use Rattle.std.proofs.Common.{inl, inr, refl, sym}
use Rattle.pg_program.proofs.Asked.{is_found, no_fault_found, no_fault_told, none_asked, told_only, told_so}
use Rattle.pg_program.proofs.Ends.{not_usage}
use Rattle.pg_program.proofs.Idle.{nothing_done, nothing_touched}
use Rattle.pg_program.proofs.command.heed.Goals as goal

pub obey-requires : goal.obey-requires
obey-requires g c = c.in-Ok.ensures.found.fits

pub returns-in-Ok : goal.returns-in-Ok
returns-in-Ok g c = record {
  obeys = λ command asks.
      rw (sym (is_found c.args.words.now c.in-Ok.command command c.in-Ok.ensures.complete asks)) c.obey.ensures;
  usage = λ n. (
    λ told. absurd (not_usage _ _ _ c.in-Ok.command _ _ n _ _ c.obey.ensures.acts told),
    λ fault. absurd (no_fault_found c.args.words.now c.in-Ok.command n c.in-Ok.ensures.first fault),
  );
  other = inl (c.in-Ok.command, c.in-Ok.ensures.found);
}

pub returns-in-OutOfMemory : goal.returns-in-OutOfMemory
returns-in-OutOfMemory g c = record {
  obeys = λ command asks. record {
    acts = nothing_done _ _ _ command _ _;
    keeps = nothing_touched command _ _ _ _ _ _;
  };
  usage = λ n. (
    λ told. absurd cc,
    λ fault. absurd (no_fault_told c.args.words.now c.in-Err.error n c.in-OutOfMemory.is c.in-Err.ensures.first fault),
  );
  other = inr (inl refl, refl, refl, refl, refl, refl);
}

pub returns : goal.returns
returns g c = record {
  obeys = λ command asks.
      absurd (none_asked c.args.words.now c.in-Err.error c.in-Usage.word c.in-Usage.is c.in-Err.ensures.complete command asks);
  usage = λ n. (
    told_so c.args.words.now c.in-Err.error c.in-Usage.word n c.in-Usage.is c.in-Err.ensures.wrong,
    told_only c.args.words.now c.in-Err.error c.in-Usage.word n c.in-Usage.is c.in-Err.ensures.first,
  );
  other = inr (inr (c.in-Usage.word, refl), refl, refl, refl, refl, refl);
}

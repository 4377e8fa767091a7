use Rattle.std.proofs.lemmas.Result.{err_from_is_err_and}
use Rattle.pg_log.proofs.Unique.{opens_once, never_both}
use Rattle.pg_log.proofs.Refusals.{Cause, opens_refused, bad_refused}
use Rattle.std.proofs.Common.{arith, ◌≡◌, ◌≤◌, ◌+◌, ◌∙◌, subst, sym, ap, length, take, List, ℕ, Some}
use Rattle.pg_disk.specs.Disk.{Write, Cut, written}
use Rattle.pg_disk.specs.Told.{Told, given}
use Rattle.pg_disk.specs.Synced.{IsSynced}
use Rattle.pg_log.specs.Bytes.{front, AllFit}
use Rattle.pg_log.specs.Log.{Stands}
use Rattle.pg_log.proofs.Opening.{empty_log, moments_anew, stands_anew, moments_cut, stands_cut, opens_whole}
use Rattle.pg_log.proofs.log.Log.open.Goals as goal

pub returns-in_err-write_synced-clause-any_moment : goal.returns-in_err-write_synced-clause-any_moment
returns-in_err-write_synced-clause-any_moment g c = λ tells settled entries opens.
    let old : Told = g.D.Disk.told c.args.disk.now in
    let new : Told = g.D.Disk.told c.write_synced.new.disk in
    let synced = subst (λ (t : Told). IsSynced c.write_synced.result 0 (Write 0 empty_log) t new) (c.read_file.ensures.same tells) (c.write_synced.ensures.synced tells) in
    let short : length (given old 0) ≤ 17 = (let size = ap length (c.in_ok-file.ensures.bytes tells) in omega (arith, size)) in
    moments_anew old new short c.write_synced.result entries settled opens synced

pub returns-then-len-le17-clause-any_moment : goal.returns-then-len-le17-clause-any_moment
returns-then-len-le17-clause-any_moment g c = λ tells settled entries opens.
    let old : Told = g.D.Disk.told c.args.disk.now in
    let new : Told = g.D.Disk.told c.write_synced.new.disk in
    let synced = subst (λ (t : Told). IsSynced c.write_synced.result 0 (Write 0 empty_log) t new) (c.read_file.ensures.same tells) (c.write_synced.ensures.synced tells) in
    let short : length (given old 0) ≤ 17 = (let size = ap length (c.in_ok-file.ensures.bytes tells) in omega (arith, size)) in
    moments_anew old new short c.write_synced.result entries settled opens synced

pub returns-then-len-le17-clause-stands : goal.returns-then-len-le17-clause-stands
returns-then-len-le17-clause-stands g c = λ tells.
    let old : Told = g.D.Disk.told c.args.disk.now in
    let new : Told = g.D.Disk.told c.write_synced.new.disk in
    let synced = c.in_ok-write_synced.ensures.synced tells in
    let same : given (g.D.Disk.told c.read_file.new.disk) 0 ≡ given old 0 = ap (λ (t : Told). given t 0) (c.read_file.ensures.same tells) in
    let short : length (given old 0) ≤ 17 = (let size = ap length (c.in_ok-file.ensures.bytes tells) in omega (arith, size)) in
    subst (λ (es : List (List ℕ)). Stands (Some 16) new es) (sym c.new.ensures)
    (stands_anew old new short (synced.contents ∙ ap (written 0 empty_log) same) synced.settled)

pub returns-in_err-cut_synced-clause-any_moment : goal.returns-in_err-cut_synced-clause-any_moment
returns-in_err-cut_synced-clause-any_moment g c = λ tells settled entries opens.
    let old : Told = g.D.Disk.told c.args.disk.now in
    let new : Told = g.D.Disk.told c.cut_synced.new.disk in
    let read = c.in_ok-records.ensures.ok in
    let synced = subst (λ (t : Told). IsSynced c.cut_synced.result 0 (Cut (c.in_ok-records.gate + 1)) t new) (c.read_file.ensures.same tells) (c.cut_synced.ensures.synced tells) in
    moments_cut old new c.in_ok-records.records c.in_ok-records.gate read.1 read.0 read.2.0 (sym (c.in_ok-file.ensures.bytes tells) ∙ sym c.deref.ensures.value ∙ read.2.1) read.2.2
    c.cut_synced.result entries settled opens synced

pub returns-clause-any_moment : goal.returns-clause-any_moment
returns-clause-any_moment g c = λ tells settled entries opens.
    let old : Told = g.D.Disk.told c.args.disk.now in
    let new : Told = g.D.Disk.told c.cut_synced.new.disk in
    let read = c.in_ok-records.ensures.ok in
    let synced = subst (λ (t : Told). IsSynced c.cut_synced.result 0 (Cut (c.in_ok-records.gate + 1)) t new) (c.read_file.ensures.same tells) (c.cut_synced.ensures.synced tells) in
    moments_cut old new c.in_ok-records.records c.in_ok-records.gate read.1 read.0 read.2.0 (sym (c.in_ok-file.ensures.bytes tells) ∙ sym c.deref.ensures.value ∙ read.2.1) read.2.2
    c.cut_synced.result entries settled opens synced

pub returns-clause-opened : goal.returns-clause-opened
returns-clause-opened g c = λ tells.
    let old : Told = g.D.Disk.told c.args.disk.now in
    let new : Told = g.D.Disk.told c.cut_synced.new.disk in
    let read = c.in_ok-records.ensures.ok in
    opens_whole old new c.in_ok-records.records c.in_ok-records.gate read.1 read.0 read.2.0 (sym (c.in_ok-file.ensures.bytes tells) ∙ sym c.deref.ensures.value ∙ read.2.1) read.2.2

pub returns-clause-stands : goal.returns-clause-stands
returns-clause-stands g c = λ tells.
    let old : Told = g.D.Disk.told c.args.disk.now in
    let new : Told = g.D.Disk.told c.cut_synced.new.disk in
    let read = c.in_ok-records.ensures.ok in
    let synced = c.in_ok-cut_synced.ensures.synced tells in
    stands_cut old new c.in_ok-records.records c.in_ok-records.gate read.1 read.0 read.2.0 (sym (c.in_ok-file.ensures.bytes tells) ∙ sym c.deref.ensures.value ∙ read.2.1) read.2.2
    (synced.contents ∙ ap (λ (t : Told). take (c.in_ok-records.gate + 1) (given t 0)) (c.read_file.ensures.same tells)) synced.settled

pub returns-then-len-le17-clause-cut : goal.returns-then-len-le17-clause-cut
returns-then-len-le17-clause-cut g c = λ tells long.
    let old : Told = g.D.Disk.told c.args.disk.now in
    let short : length (given old 0) ≤ 17 = (let size = ap length (c.in_ok-file.ensures.bytes tells) in omega (arith, size)) in
    absurd (omega (arith, short, long))

pub returns-clause-cut : goal.returns-clause-cut
returns-clause-cut g c = λ tells long.
    let old : Told = g.D.Disk.told c.args.disk.now in
    let read = c.in_ok-records.ensures.ok in
    let synced = c.in_ok-cut_synced.ensures.synced tells in
    synced.contents ∙ ap (λ (t : Told). take (c.in_ok-records.gate + 1) (given t 0)) (c.read_file.ensures.same tells) ∙ ap (λ (n : ℕ). take (n + 1) (given old 0)) read.1

pub returns-in_err-records-clause-whole : goal.returns-in_err-records-clause-whole
returns-in_err-records-clause-whole g c = λ tells entries opens.
    let result = err_from_is_err_and c.from_residual-in_err-records.result c.from_residual-in_err-records.ensures.1 in
    let cause = subst (λ (f : List ℕ). Cause f c.in_err-records.field-0.0) (c.deref.ensures.value ∙ c.in_ok-file.ensures.bytes tells) c.in_err-records.ensures.err in
    rw (result.1, result.2) (opens_refused (given (g.D.Disk.told c.args.disk.now) 0) entries c.in_err-records.field-0.0 cause opens)

pub returns-in_err-records-clause-first : goal.returns-in_err-records-clause-first
returns-in_err-records-clause-first g c = λ tells place bad.
    let result = err_from_is_err_and c.from_residual-in_err-records.result c.from_residual-in_err-records.ensures.1 in
    let cause = subst (λ (f : List ℕ). Cause f c.in_err-records.field-0.0) (c.deref.ensures.value ∙ c.in_ok-file.ensures.bytes tells) c.in_err-records.ensures.err in
    rw (result.1, result.2) (bad_refused (given (g.D.Disk.told c.args.disk.now) 0) place c.in_err-records.field-0.0 cause bad)

pub returns-clause-whole : goal.returns-clause-whole
returns-clause-whole g c = λ tells entries opens. opens_once (given (g.D.Disk.told c.args.disk.now) 0) c.in_ok-records.records entries (returns-clause-opened g c tells) opens

pub returns-clause-first : goal.returns-clause-first
returns-clause-first g c = λ tells place bad. never_both (given (g.D.Disk.told c.args.disk.now) 0) c.in_ok-records.records place (returns-clause-opened g c tells) bad

pub returns-then-len-le17-clause-place : goal.returns-then-len-le17-clause-place
returns-then-len-le17-clause-place g c = ap (λ (es : List (List ℕ)). Some (length (front es))) (sym c.new.ensures)

pub returns-then-len-le17-clause-fit : goal.returns-then-len-le17-clause-fit
returns-then-len-le17-clause-fit g c = subst AllFit (sym c.new.ensures) tt

pub returns-clause-place : goal.returns-clause-place
returns-clause-place g c = ap Some c.in_ok-records.ensures.ok.1

pub returns-clause-fit : goal.returns-clause-fit
returns-clause-fit g c = c.in_ok-records.ensures.ok.0

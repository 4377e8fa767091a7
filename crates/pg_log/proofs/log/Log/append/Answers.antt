use Rattle.std.proofs.Common.{rules, arith, ◌≡◌, ◌+◌, ◌∙◌, length}
use Rattle.pg_disk.proofs.Moments.{leaves_started, keeps_then}
use Rattle.pg_log.specs.Bytes.{front}
use Rattle.pg_log.specs.Log.{OpensWithOrWithout}
use Rattle.pg_log.proofs.Crash.{unchanged, moments_behind, moments_opening, stands_with}
use Rattle.pg_log.proofs.log.Log.append.Goals as goal

pub returns-in_err-block-clause-any_moment : goal.returns-in_err-block-clause-any_moment
returns-in_err-block-clause-any_moment g c =
    λ tells entries stands. leaves_started (g.D.Disk.told c.args.disk.now).chosen 0 (OpensWithOrWithout entries c.args.bytes.now) (g.D.Disk.told c.args.disk.now).history
    (λ image is. unchanged c.args.bytes.now stands image (stands.settled image is))

pub returns-in_err-write_synced-clause-any_moment : goal.returns-in_err-write_synced-clause-any_moment
returns-in_err-write_synced-clause-any_moment g c =
    λ tells entries stands.
    let place : c.in-Some.gate ≡ length (front entries) = (let p = stands.place in search rules) in
    moments_behind c.args.bytes.now (search rules) c.write_synced.result (g.D.Disk.told c.args.disk.now) (g.D.Disk.told c.write_synced.new.disk) entries
    (c.in-Some.gate + 1) c.deref.result.now stands (omega (arith, place)) (c.deref.ensures.value ∙ c.in_ok-block.ensures) (c.write_synced.ensures.synced tells)

pub returns-in_err-write_synced-2-clause-any_moment : goal.returns-in_err-write_synced-2-clause-any_moment
returns-in_err-write_synced-2-clause-any_moment g c =
    λ tells entries stands.
    let place : c.in-Some.gate ≡ length (front entries) = (let p = stands.place in search rules) in
    moments_opening c.args.bytes.now (search rules) _ c.write_synced-2.result (g.D.Disk.told c.args.disk.now) (g.D.Disk.told c.write_synced.new.disk) (g.D.Disk.told c.write_synced-2.new.disk)
    entries (c.in-Some.gate + 1) c.in-Some.gate c.deref.result.now stands (omega (arith, place)) place (c.deref.ensures.value ∙ c.in_ok-block.ensures)
    (c.in_ok-write_synced.ensures.synced tells) (c.write_synced-2.ensures.synced tells)

pub returns-clause-any_moment : goal.returns-clause-any_moment
returns-clause-any_moment g c =
    λ tells entries stands.
    let place : c.in-Some.gate ≡ length (front entries) = (let p = stands.place in search rules) in
    moments_opening c.args.bytes.now (search rules) _ c.write_synced-2.result (g.D.Disk.told c.args.disk.now) (g.D.Disk.told c.write_synced.new.disk) (g.D.Disk.told c.write_synced-2.new.disk)
    entries (c.in-Some.gate + 1) c.in-Some.gate c.deref.result.now stands (omega (arith, place)) place (c.deref.ensures.value ∙ c.in_ok-block.ensures)
    (c.in_ok-write_synced.ensures.synced tells) (c.write_synced-2.ensures.synced tells)

pub returns-clause-appended : goal.returns-clause-appended
returns-clause-appended g c =
    λ tells entries stands.
    let place : c.in-Some.gate ≡ length (front entries) = (let p = stands.place in search rules) in
    let size : c.in-Some.gate + c.len.result ≡ c.in-Some.gate + length c.deref.result.now = omega (arith, c.deref.ensures.len, c.len.ensures) in
    stands_with c.args.bytes.now (search rules) _ (g.D.Disk.told c.args.disk.now) (g.D.Disk.told c.write_synced.new.disk) (g.D.Disk.told c.write_synced-2.new.disk)
    entries (c.in-Some.gate + 1) c.in-Some.gate (c.in-Some.gate + c.len.result) c.deref.result.now stands (omega (arith, place)) place size (c.deref.ensures.value ∙ c.in_ok-block.ensures)
    (c.in_ok-write_synced.ensures.synced tells) (c.in_ok-write_synced-2.ensures.synced tells)

pub returns-in_err-write_synced-2-clause-others : goal.returns-in_err-write_synced-2-clause-others
returns-in_err-write_synced-2-clause-others g c = λ tells.
    keeps_then 0 (g.D.Disk.told c.args.disk.now) (g.D.Disk.told c.write_synced.new.disk) (g.D.Disk.told c.write_synced-2.new.disk)
    (c.write_synced.ensures.synced tells).keeps (c.write_synced-2.ensures.synced tells).keeps

pub returns-clause-others : goal.returns-clause-others
returns-clause-others g c = λ tells.
    keeps_then 0 (g.D.Disk.told c.args.disk.now) (g.D.Disk.told c.write_synced.new.disk) (g.D.Disk.told c.write_synced-2.new.disk)
    (c.write_synced.ensures.synced tells).keeps (c.write_synced-2.ensures.synced tells).keeps

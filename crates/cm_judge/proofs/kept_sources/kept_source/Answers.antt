use Rattle.std.proofs.Common.{refl}
use Rattle.cm_judge.proofs.Parsed.{accepted, beyond, other_language, refused}
use Rattle.cm_judge.proofs.kept_sources.kept_source.Goals as goal

pub returns-in-Ok : goal.returns-in-Ok
returns-in-Ok c = rw (accepted c.args.text.now c.parse.result c.parse.ensures.too_long c.in-Ok.document c.in-Ok.is c.in-Ok.ensures.ok) c.new.ensures

pub returns-in-TooLong : goal.returns-in-TooLong
returns-in-TooLong c =
    rw (beyond c.args.text.now c.parse.result c.parse.ensures.too_long c.in-Err.fault c.in-Err.is (c.in-Err.ensures.at_limits c.in-TooLong.is)) tt

pub returns-in-UnsupportedLanguage : goal.returns-in-UnsupportedLanguage
returns-in-UnsupportedLanguage c =
    rw (other_language c.args.text.now c.parse.result c.parse.ensures.too_long c.in-Err.fault c.in-Err.is c.in-Err.ensures.fault c.in-UnsupportedLanguage.is) tt

pub returns-in_default : goal.returns-in_default
returns-in_default c =
    let d = c.in_default in
    rw (refused c.args.text.now c.parse.result c.parse.ensures.too_long c.in-Err.fault c.in-Err.is c.in-Err.ensures.fault d.not-UnsupportedLanguage d.not-TooLong d.not-Memory) refl

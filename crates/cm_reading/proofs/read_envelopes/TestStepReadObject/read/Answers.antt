use Rattle.std.proofs.Common.{◌≡◌, codes, rules}
use Rattle.serde_json.specs.View.{view}
use Rattle.cm_envelope.specs.Member.{member_of}
use Rattle.cm_reading.specs.Members.{as_named}
use Rattle.cm_reading.proofs.read_envelopes.TestStepReadObject.read.Goals as goal

pub returns-in_err-texts : goal.returns-in_err-texts
returns-in_err-texts c =
    let id : as_named c.four_members.result.0 ≡ member_of (codes "id") (view c.args.object.now) = c.four_members.ensures.first in
    let hook : as_named c.four_members.result.1 ≡ member_of (codes "hookId") (view c.args.object.now) = c.four_members.ensures.second in
    let step : as_named c.four_members.result.2 ≡ member_of (codes "pickleStepId") (view c.args.object.now) = c.four_members.ensures.third in
    let definitions : as_named c.four_members.result.3 ≡ member_of (codes "stepDefinitionIds") (view c.args.object.now) = c.four_members.ensures.fourth in
    search rules

pub returns : goal.returns
returns c =
    let id : as_named c.four_members.result.0 ≡ member_of (codes "id") (view c.args.object.now) = c.four_members.ensures.first in
    let hook : as_named c.four_members.result.1 ≡ member_of (codes "hookId") (view c.args.object.now) = c.four_members.ensures.second in
    let step : as_named c.four_members.result.2 ≡ member_of (codes "pickleStepId") (view c.args.object.now) = c.four_members.ensures.third in
    let definitions : as_named c.four_members.result.3 ≡ member_of (codes "stepDefinitionIds") (view c.args.object.now) = c.four_members.ensures.fourth in
    search rules

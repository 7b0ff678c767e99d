use Rattle.etglavino_c.proofs.ValueHanded.{put-accepted, put_refused}
use Rattle.etglavino_c.proofs.valuing.etg_put_value.Goals as goal

pub returns-in-Ok : goal.returns-in-Ok
returns-in-Ok c =
    let put = c.put_value in
    let made = c.value_for-value in
    put-accepted put.result _ made.result c.args.kind c.args.single c.args.double c.args.whole c.args.start c.args.end c.ranges.whole made.ensures c.args.octets.now c.args.out.now put.ensures c.in-Ok.length c.in-Ok.is

pub returns-in-Err : goal.returns-in-Err
returns-in-Err c =
    let put = c.put_value in
    let made = c.value_for-value in
    rw c.number.ensures
    (put_refused put.result _ made.result c.args.kind c.args.single c.args.double c.args.whole c.args.start c.args.end c.ranges.whole made.ensures c.args.octets.now c.args.out.now put.ensures c.in-Err.refusal c.in-Err.is)

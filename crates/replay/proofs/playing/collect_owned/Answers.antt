use Rattle.std.proofs.Common.{◌≡◌, vec_len, min, rules}
use Rattle.std.specs.Result.{result_unwrap_or}
use Rattle.replay.proofs.Collecting.{as_whole}
use Rattle.replay.proofs.playing.collect_owned.Goals as goal

pub returns : goal.returns
returns g c =
    let long : vec_len c.in_ok-octets.octets ≡ min (result_unwrap_or c.waiting_length.result 0) c.args.capacity = search rules in
    as_whole _ _ _ c.waiting_length.result c.args.capacity _ _ _ c.waiting_length.ensures.kept c.waiting_length.ensures.answer long c.collect_into.ensures

use Rattle.std.proofs.Common.{◌+◌, None, ap, ◌∙◌, arith}
use Rattle.formats.specs.NetworkFile.{connection_count, connection, departed, point_count, point, passed, arc, left}
use Rattle.records.specs.Stream.{a_connection, a_point, an_arc, listed, ended, road_run, arc_run}
use Rattle.records.specs.Records.{size}
use Rattle.records.proofs.Handing.{at_section, streamed_none}
use Rattle.records.proofs.records.Records.step.Goals as goal

pub loop-self-preserved-in-Connections-default-default-eq0-default : goal.loop-self-preserved-in-Connections-default-default-eq0-default
loop-self-preserved-in-Connections-default-default-eq0-default c =
    let r = c.loop-self.self in (
      c.loop-self.invariant.0 ∙ at_section r c.in-Connections-default-default-eq0-default.is
          ∙ streamed_none connection departed (a_connection c.in-Connections-default-default-eq0-default.service) (listed connection_count connection departed 0 a_connection (road_run r.stops r.walks r.timetables) (r.walks + r.timetables) c.in-Connections-default-default-eq0-default.lists) c.in-Connections-default-default-eq0-default.last c.in-Connections-default-default-eq0-default.left _ _ (omega (arith, c.in-Connections-default-default-eq0-default.left-is, c.in-Connections-default-default-eq0-default.left-test)),
      omega (arith, ap size c.in-Connections-default-default-eq0-default.is, c.loop-self.invariant.1),
    )

pub loop-self-preserved-in-Points-default-default-eq0-default : goal.loop-self-preserved-in-Points-default-default-eq0-default
loop-self-preserved-in-Points-default-default-eq0-default c =
    let r = c.loop-self.self in (
      c.loop-self.invariant.0 ∙ at_section r c.in-Points-default-default-eq0-default.is
          ∙ streamed_none point passed (a_point c.in-Points-default-default-eq0-default.service) (listed point_count point passed None a_point (arc_run r.stops (r.walks + r.timetables + r.roads)) (r.walks + r.timetables + r.roads) c.in-Points-default-default-eq0-default.lists) c.in-Points-default-default-eq0-default.before c.in-Points-default-default-eq0-default.left _ _ (omega (arith, c.in-Points-default-default-eq0-default.left-is, c.in-Points-default-default-eq0-default.left-test)),
      omega (arith, ap size c.in-Points-default-default-eq0-default.is, c.loop-self.invariant.1),
    )

pub loop-self-preserved : goal.loop-self-preserved
loop-self-preserved c =
    let r = c.loop-self.self in
    (c.loop-self.invariant.0 ∙ at_section r c.in-Arcs-eq0-default.is ∙ streamed_none (arc r.stops (r.walks + r.timetables + r.roads)) left an_arc ended c.in-Arcs-eq0-default.last c.in-Arcs-eq0-default.left _ _ (omega (arith, c.in-Arcs-eq0-default.left-is, c.in-Arcs-eq0-default.left-test)), omega (arith, ap size c.in-Arcs-eq0-default.is, c.loop-self.invariant.1))

-- OUR COLLECTOR, of which the promises are proved: each piece is the collector's own definition. It stands apart from
-- the same pieces that the laws speak of, so that a wrong piece here, a wrong collector, is refused at the promises
-- themselves.
use Rattle.collector.specs.Calls.{open_with, drop_number, locate, show}
use Rattle.queries.specs.Questions.{parameters, name, find}
use Rattle.queries.specs.Missing.{missing}
use Rattle.history.specs.History.{Collecting, asking}
use Rattle.history.specs.Taking.{take, address}

abbrev pub ours : Collecting
ours = record {
  opens = open_with;
  takes = take;
  drops = drop_number;
  locates = locate;
  shows = show;
  tells = parameters;
  names = name;
  finds = find;
  awaits = missing;
  addresses = address;
  asks = asking;
}

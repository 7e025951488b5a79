use Rattle.std.proofs.Common.{rules}
use Rattle.code_table.specs.Images.{image}
use Rattle.history_core.specs.Tokens.{setting_of}
use Rattle.page_store.specs.Holdings.{table_in}
use Rattle.page_store.proofs.PageLaws.{pages_hold, read_is, some_is, fits_page, fits_place}
use Rattle.page_store.proofs.page_words.PageWordsWords.word.Goals as goal

pub bounds-self-page : goal.bounds-self-page
bounds-self-page g c =
    let here = c.args.self.now in
    let f = pages_hold g.S.PagedStory.holds here.hall.now here.pass.now here.pages.now
    c.pages_have_words.ensures g.met.S.PagedStory.are_holdings
    g.met.S.PagedStory.are_pinned c.requires.ready c.args.page c.args.place
    c.ranges.place.fits c.requires.within in
    f.within

pub overflow_mul-page : goal.overflow_mul-page
overflow_mul-page g c =
    let here = c.args.self.now in
    let f = pages_hold g.S.PagedStory.holds here.hall.now here.pass.now here.pages.now
    c.pages_have_words.ensures g.met.S.PagedStory.are_holdings
    g.met.S.PagedStory.are_pinned c.requires.ready c.args.page c.args.place
    c.ranges.place.fits c.requires.within in
    let small = fits_page _ _ _ c.args.self.now.hall.now.few f.inside in search (rules, small)

pub overflow_add-page : goal.overflow_add-page
overflow_add-page g c =
    let here = c.args.self.now in
    let f = pages_hold g.S.PagedStory.holds here.hall.now here.pass.now here.pages.now
    c.pages_have_words.ensures g.met.S.PagedStory.are_holdings
    g.met.S.PagedStory.are_pinned c.requires.ready c.args.page c.args.place
    c.ranges.place.fits c.requires.within in
    let small = fits_place _ _ _ c.args.self.now.hall.now.few f.inside in search (rules, small)

pub read-requires-clause-inside : goal.read-requires-clause-inside
read-requires-clause-inside g c =
    let here = c.args.self.now in
    let f = pages_hold g.S.PagedStory.holds here.hall.now here.pass.now here.pages.now
    c.pages_have_words.ensures g.met.S.PagedStory.are_holdings
    g.met.S.PagedStory.are_pinned c.requires.ready c.args.page c.args.place
    c.ranges.place.fits c.requires.within in
    f.inside

pub read-requires-clause-pinned : goal.read-requires-clause-pinned
read-requires-clause-pinned g c =
    let here = c.args.self.now in
    let f = pages_hold g.S.PagedStory.holds here.hall.now here.pass.now here.pages.now
    c.pages_have_words.ensures g.met.S.PagedStory.are_holdings
    g.met.S.PagedStory.are_pinned c.requires.ready c.args.page c.args.place
    c.ranges.place.fits c.requires.within in
    some_is _ _ f.word

pub returns-clause-value : goal.returns-clause-value
returns-clause-value g c =
    let here = c.args.self.now in
    let f = pages_hold g.S.PagedStory.holds here.hall.now here.pass.now here.pages.now
    c.pages_have_words.ensures g.met.S.PagedStory.are_holdings
    g.met.S.PagedStory.are_pinned c.requires.ready c.args.page c.args.place
    c.ranges.place.fits c.requires.within in
    read_is _ _ _ c.read.ensures.word f.word

pub returns-clause-same : goal.returns-clause-same
returns-clause-same g c = λ i. image
    (table_in (g.S.PagedStory.holds (setting_of g.S.Story.setting c.args.self.now.hall.now)
    (c.read.ensures.same.1 i).0.front (c.read.ensures.same.1 i).0.number) c.args.self.now.pages.now)

-- One name that unfolds every definition of document 01, for closed computations. Written by .ci/everything.
use Rattle.model.specs.Numbers
use Rattle.model.specs.Lists
use Rattle.model.specs.Codes
use Rattle.model.specs.Table
use Rattle.model.specs.Slots
use Rattle.model.specs.Search
use Rattle.model.specs.Reached
use Rattle.model.specs.SoundTest
use Rattle.model.specs.Listing
use Rattle.model.specs.Orders
use Rattle.model.specs.Cuts
use Rattle.model.specs.Shifts
use Rattle.model.specs.Writes
use Rattle.model.specs.Refusals
use Rattle.model.specs.Ledger
use Rattle.model.specs.Demand3
use Rattle.model.specs.Printer
use Rattle.model.specs.Packing
use Rattle.model.specs.Salvage
use Rattle.model.specs.Sentinels
use Rattle.model.specs.Judge
use Rattle.model.specs.Looks
use Rattle.model.specs.Scripts
use Rattle.model.specs.Wear
use Rattle.model.specs.Pack
use Rattle.model.specs.Batch
use Rattle.model.specs.Statistics
use Rattle.model.specs.Marks
use Rattle.model.specs.Cells
use Rattle.model.specs.Summary
use Rattle.model.specs.QuickBatch
use Rattle.model.specs.QuickHistories

unfoldable pub everything : Unit {0}
unfolding Numbers.first_of Numbers.refusal_of
    Lists.all
    Codes.is_digit Codes.is_letter Codes.is_letter_or_digit Codes.is_code Codes.value Codes.read_on Codes.number Codes.key_of Codes.parse
    Codes.character Codes.digits Codes.spelling Codes.has_code Codes.print Codes.text_below
    Table.table_length Table.nodes_for Table.length_ok Table.in_range Table.all_zero Table.header_ok Table.header_number Table.no_collection
    Table.node_start Table.has_node Table.blank Table.node_from Table.node Table.spare Table.empty Table.empty_of Table.make_number
    Table.making Table.made
    Slots.slots_of Slots.recording_of Slots.class_of Slots.pointer_of Slots.recording_ok Slots.class_ok Slots.pointer_ok Slots.in_use
    Slots.shown Slots.hidden_slots Slots.full Slots.used Slots.clear_in
    Search.below Search.moved Search.route Search.on_level Search.passes Search.locate Search.path_from Search.first_with Search.filter
    Search.kept Search.first_above Search.next_from Search.lookup Search.search_view Search.search
    Reached.flat Reached.first_child Reached.fill_row Reached.children Reached.reached_from Reached.leaves_from Reached.mapping
    Reached.reached_all Reached.maps_of
    SoundTest.elem SoundTest.distinct SoundTest.sibling_ok SoundTest.rising SoundTest.come_first SoundTest.keys_ok SoundTest.linked
    SoundTest.child_ok SoundTest.slot_ok SoundTest.leaf_ok SoundTest.inner_ok SoundTest.node_ok SoundTest.root_ok SoundTest.recordings_ok
    SoundTest.orderly SoundTest.trailing_in SoundTest.own SoundTest.row_unfinished SoundTest.unfinished_at SoundTest.unfinished
    SoundTest.leftover_of SoundTest.leftover SoundTest.room SoundTest.settled_view SoundTest.sound_view SoundTest.leftover_in
    SoundTest.one_left SoundTest.sound SoundTest.settled
    Listing.in_range_of Listing.listed Listing.listed_words Listing.list_number Listing.list Listing.list_out
    Orders.apply Orders.carry Orders.orders_after Orders.orders Orders.with_barriers Orders.without_barriers Orders.store_count
    Orders.flush_count Orders.barrier_count Orders.encode Orders.decode Orders.list_with Orders.all_inside Orders.carry_number
    Orders.carry_out Orders.carried_out
    Cuts.flushed Cuts.up_to_flush Cuts.since_flush Cuts.line_stores Cuts.to_barrier Cuts.choice
    Shifts.last_pointer Shifts.move_up Shifts.move_down Shifts.shift_in Shifts.close Shifts.shift_out Shifts.place_of Shifts.hidden_place
    Writes.shift_in_at Writes.shift_out_at Writes.close_at Writes.numbers Writes.unreached Writes.unreachable Writes.fresh Writes.put_all
    Writes.node_words Writes.split_words Writes.split Writes.new_root Writes.cut_off Writes.attach Writes.repair_of Writes.repair_stores
    Writes.repaired Writes.standing_in Writes.run_in Writes.root_in_run Writes.splits Writes.root_stores Writes.insert_settled
    Writes.insert_stores Writes.child_before Writes.frees_leaf Writes.free_stores Writes.delete_settled Writes.delete_stores
    Writes.set_class_at Writes.class_stores Writes.stores_of
    Refusals.too_high Refusals.too_few Refusals.has_key Refusals.has_recording Refusals.refusal Refusals.written Refusals.table_after
    Refusals.list_after
    Ledger.enter Ledger.leave Ledger.reclass Ledger.on_map Ledger.ledger_refusal Ledger.feed
    Demand3.step Demand3.run_from Demand3.MayFrom Demand3.ledger_from
    Printer.lines Printer.fields Printer.is_recording Printer.form_of Printer.decimal_from Printer.decimal Printer.numbers_text
    Printer.order_text Printer.orders_text Printer.do_call Printer.do_form Printer.do_line Printer.do_lines Printer.printer
    Packing.groups Packing.bottom Packing.numbered Packing.row_above Packing.rows_above Packing.packed Packing.row_words Packing.rows_words
    Packing.count_rows Packing.packed_count Packing.packed_words Packing.packed_both Packing.packed_table
    Salvage.shown_at Salvage.under_fence Salvage.followed Salvage.meetings Salvage.may_enter Salvage.visit Salvage.entered_from
    Salvage.entered Salvage.out_of_range Salvage.reason_for Salvage.gather_slot Salvage.gather_slots Salvage.collected Salvage.gather_nodes
    Salvage.gathered_along Salvage.gathered Salvage.kept_maps Salvage.dropped_all Salvage.drop_words Salvage.outgrows Salvage.salvage_number
    Salvage.salvage Salvage.salvage_out Salvage.salvage_report
    Sentinels.shown_on Sentinels.leaves_all Sentinels.sentinels_of Sentinels.sentinels Sentinels.slice_number Sentinels.work_number
    Sentinels.work_out Sentinels.worked_out Sentinels.line_for Sentinels.leaf_sought Sentinels.search_with Sentinels.refusal_with
    Sentinels.written_with Sentinels.table_with Sentinels.orders_with Sentinels.stores_to_node Sentinels.set_anew Sentinels.sentinels_with
    Judge.same_slots Judge.same_maps Judge.good_image Judge.completes Judge.judged_from Judge.judged Judge.judge_number Judge.judge
    Judge.judge_out
    Looks.seen_on Looks.seen_pass Looks.seen_within Looks.stood Looks.stood_on Looks.seen_kept Looks.next_looks Looks.answer_looks
    Looks.search_looks Looks.next_seen Looks.answer_seen Looks.search_seen
    Scripts.call_of Scripts.is_script Scripts.action_before Scripts.first_differs Scripts.before Scripts.rank_on Scripts.unrank
    Scripts.script_words Scripts.script_answer Scripts.script_out Scripts.form_script Scripts.script_number Scripts.cut_tables
    Scripts.agrees Scripts.bad_tables Scripts.along Scripts.over_all Scripts.met_text
    Wear.stored_to Wear.stores_to Wear.wear_of Wear.largest Wear.first_at Wear.join_all Wear.extents_of Wear.extent_words Wear.wear_number
    Wear.figures Wear.worn Wear.lines_after Wear.pairs_after Wear.covered
    Pack.pairs_ok Pack.maps_in Pack.maps_ok Pack.pack_number Pack.packing Pack.pack_out
    Batch.batch
    Statistics.check_number Statistics.checking Statistics.hidden_slot Statistics.trailing_slots Statistics.left_in Statistics.tree_words
    Statistics.report Statistics.report_out
    Marks.has Marks.put Marks.cleared Marks.put_each
    Cells.mixed Cells.home_of Cells.next_cell Cells.ahead Cells.seek Cells.cell_for Cells.holds Cells.entered Cells.entered_all
    Cells.closed_up Cells.without
    Summary.mark_words Summary.cell_words Summary.recordings_of Summary.opened Summary.open_number Summary.opening Summary.opened_words
    Summary.fit_node Summary.way_ok Summary.unmarked Summary.free_after Summary.full_node Summary.roomy Summary.split_way Summary.start_way
    Summary.run_of Summary.way_made Summary.quick_insert Summary.neighbour_ok Summary.too_few_in Summary.quick_number Summary.quick_stores
    Summary.quick_words Summary.quick_written Summary.quick_table Summary.quick_list Summary.quick_summary Summary.leaves_up_to
    Summary.page_of Summary.quick_list_number Summary.quick_listed Summary.quick_list_out
    QuickBatch.quick_batch
    QuickHistories.run_acts QuickHistories.MayActs QuickHistories.plain
everything = tt

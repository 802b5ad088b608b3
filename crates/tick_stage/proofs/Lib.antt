mod EntryLists

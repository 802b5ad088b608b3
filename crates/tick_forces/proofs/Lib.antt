mod EntriesLeft

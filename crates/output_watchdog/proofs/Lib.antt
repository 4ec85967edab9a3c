mod PathWrites
